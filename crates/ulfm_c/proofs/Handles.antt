-- The machine values of a handle. Assumes `Logic`.
use Rattle.std.proofs.Common.{◌≡◌, ℕ, List, [], ◌∷◌, ◌++◌, refl, subst}
use seplogic.Ra.Ura.{Ura}
use mir.Val.{Val, vstruct, vcons, vnil, of_list}
use types.Logic.{Logic, sem}
use base.Logic.{ent, via, never, guard, fst∗, snd∗, guard_i}
use mir.Raw.{raw as bare}
use contract.Monad.{fact_use}
use denote.Memory.{lone}
use types.Kit.{Item, Goal, Seq, Step, step, ‵, given, ◌$◌, learn, use1, drop, fsplit, fjoin, fpick, fpack, feq_i, feq_l}
use denote.RattleType.{RattleType, Valss}
use denote.Builtin.{RawPtr}
use denote.RawPtr.{Ptr, ptr_val, block_ptr, null_ptr, in_a_block, Testable}
use denote.Steps.{nothing}
use denote.Struct.Struct.{within}
use denote.Struct.Owning.{shape}
use Rattle.std.specs.declared.option.Option.{Option}
use Rattle.std.specs.declared.option.Option.TheVariants.{None, Some}
use Rattle.std.specs.declared.alloc.Global.{Global}
use Rattle.std.proofs.GlobalToken.{dealloc_token-Testable}
use Rattle.std_alloc.specs.Box.Ownership.{box_owns}
use Rattle.std.specs.Ptr.{points_to}
use Rattle.ulfm_c.specs.Owned.{block, owned_at}
use Rattle.ulfm_c.specs.contracts.party.Party as party
use Rattle.ulfm_c.specs.contracts.handle.Handle as handle

abbrev pub Handle : RattleType
Handle = handle.the_row

abbrev pub alone : Ptr → Val
alone p = vstruct (vcons (ptr_val p) vnil)

module _ {M : Type 1} {𝓤 : Ura M} {𝓛 : Logic 𝓤} {K : Type 0} {Γ : List (Item 𝓤)} {G : Goal 𝓤 𝓛.H} where
  pub handle_in : K → (p : Ptr) (s : Option (party.the_row.Denot))
      → Step K 𝓛 (‵ (Handle.own_val (record { at = p; party = s }) (alone p ∷ [])) ∷ Γ) G (‵ (owned_at party.the_row p s) ∷ Γ) G
  handle_in t p s = step (λ k. nothing t $ feq_i t (List Val) (ptr_val p ∷ []) (ptr_val p ∷ []) refl $ fjoin t $
      feq_i t (List Val) (alone p ∷ []) (alone p ∷ []) refl $ fjoin t $
      fpack t (Valss (RawPtr ∷ [])) (within (shape handle.the_type) (p, tt) (alone p ∷ [])) (ptr_val p ∷ [], tt) $ fjoin t $ k)

  pub handle_out : K → (d : Handle.Denot) (vs : List Val)
      → (vs ≡ alone d.at ∷ [] → Seq K 𝓛 (‵ (owned_at party.the_row d.at d.party) ∷ Γ) G) → Seq K 𝓛 (‵ (Handle.own_val d vs) ∷ Γ) G
  handle_out t d vs k = fsplit t $ fpick t (λ vss. fsplit t $ feq_l t (λ ev. fsplit t $ feq_l t (λ ep. drop t $
      k (subst (λ (ps : List Val). vs ≡ vstruct (of_list (ps ++ [])) ∷ []) ep ev))))

module _ {M : Type 1} {𝓤 : Ura M} (𝓛 : Logic 𝓤) (R : RattleType) (a : Global) where
  -- a box's block is the start of an allocation, so its pointer may be compared with null
  pub tested : (p : Ptr) (x : R.Denot) → ent 𝓤 (sem 𝓛 (box_owns block R p x)) (guard 𝓤 (Testable p) (sem 𝓛 (box_owns block R p x)))
  tested p x = fact_use 𝓤 (Testable p) (via 𝓤 (sem 𝓛 (block (bare (lone R.mir)) p)) (snd∗ 𝓤 (sem 𝓛 (points_to R p x)) (sem 𝓛 (block (bare (lone R.mir)) p)))
      (dealloc_token-Testable 𝓛 a (bare (lone R.mir)) p)) (guard_i 𝓤 (Testable p) (sem 𝓛 (box_owns block R p x)))

  module _ {K : Type 0} {Γ : List (Item 𝓤)} {G : Goal 𝓤 𝓛.H} where
    pub either_owned : K → (p : Ptr) (s : Option R.Denot) → (p ≡ null_ptr → s ≡ None → Seq K 𝓛 Γ G)
        → ((b o : ℕ) (x : R.Denot) → p ≡ block_ptr b o → s ≡ Some x → Testable (block_ptr b o) → Seq K 𝓛 (‵ (box_owns block R (block_ptr b o) x) ∷ Γ) G)
        → Seq K 𝓛 (‵ (owned_at R p s) ∷ Γ) G
    either_owned t p None k l = feq_l t (λ e. k e refl)
    either_owned t p (Some x) k l = in_a_block t p (λ q. box_owns block R q x) (fst∗ 𝓤 (never 𝓤) (sem 𝓛 (block (bare (lone R.mir)) null_ptr))) (λ b o e.
        use1 𝓛 (given (Testable (block_ptr b o)) (‵ (box_owns block R (block_ptr b o) x))) (tested (block_ptr b o) x) $ learn t (λ u. l b o x e refl u))
