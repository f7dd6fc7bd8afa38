-- A call that a member's rank has just begun.
use Rattle.std.proofs.Common.{◌≡◌, ℕ, Bool, false, subst}
use Rattle.ulfm_model.specs.Records.{Fits, Record}
use Rattle.ulfm_words.specs.Steps.{over, view_at, view_of, IsView, Name, Over, Sight}
use Rattle.ulfm_comm.specs.Phase.{Stands, UnderWay, Waits}
use Rattle.ulfm_comm.proofs.AmongOthers.{waits_none}
use Rattle.ulfm_comm.specs.Local.{local}
use Rattle.ulfm_wait.specs.Members.{IsMember, Membership}

-- it stands where it began
pub stands_begun : {P : Type 0} (meld : P → P → P) (pack : P → ℕ) (m : Membership P) (name : Name) (way : UnderWay P) → m.view.words ≡ name → IsMember meld pack m
    → ((alone : Bool) (words : Over P) (before : Sight P) → IsView meld (view_at words before) → Fits meld words.limits before.seen m.own → Stands meld alone (local m.own (view_at words before)) way (local m.own (view_at words before)))
    → (old : Record) × (before : Sight P) × (stood : Sight P) × Stands meld false (local old (view_of pack name before)) way (local m.own (view_of pack name stood)) × Waits false stood m.view.pass
stands_begun meld pack m name way same is begins =
    (m.own, m.view.pass, m.view.pass, subst (λ n. Stands meld false (local m.own (view_of pack n m.view.pass)) way (local m.own (view_of pack n m.view.pass))) same (begins false (over pack m.view.words) m.view.pass is.of is.fits), waits_none m.view.pass)
