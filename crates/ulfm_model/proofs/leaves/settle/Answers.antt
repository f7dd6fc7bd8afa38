use Rattle.ulfm_model.proofs.leaves.settle.Goals as goal

pub start-requires : goal.start-requires
start-requires g c = λ x found. c.requires.fits x c.in-Started.is (rw c.deref_mut.ensures.value at found)
