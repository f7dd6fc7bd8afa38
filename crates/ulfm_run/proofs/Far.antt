-- How far a script's line takes a call, with the declaration in between.
use Rattle.std.proofs.Common.{◌≡◌, ◌≢◌, ℕ, ◌+◌, ◌-◌, ◌≤◌, Bool, option_map, Option, Some, None, Result, Ok, Err, refl, ap, sym, ◌∙◌, subst, arith, inl, inr}
use Rattle.std.specs.Prelude.{◌⊎◌, OnOk, min}
use Rattle.std.proofs.Math.Nat.{add-zero}
use Rattle.ulfm_laws.specs.declared.flag_and.FlagAnd.{FlagAnd}
use Rattle.ulfm_model.specs.declared.call.Call.{Call}
use Rattle.ulfm_model.specs.declared.step_name.StepName.{StepName}
use Rattle.ulfm_model.specs.declared.step_line.StepLine.TheVariants.{Called, Failed}
use Rattle.ulfm_lines.specs.{Progress.{GoesAsSaid, GoesFar, IsReached, Progress}, Walked.{IsCountOf}}
use Rattle.ulfm_lines.specs.declared.step_machine.{Reach.{Reach}, Taken.{Taken}}
use Rattle.ulfm_run.specs.FailingScripts.{ComesFar, CountsAsSaid, CountsOn, behind_of, fewer, up_to}
use Rattle.ulfm_run.proofs.FailLemmas.{fewer_most, made_below, made_on}

module _ (old new : Progress) (q : ℕ) (reach : Reach) (made : ℕ) where
  -- steps that aren't cut
  pub far_whole : (n sum : ℕ) → GoesFar old new q reach n → IsCountOf (made + n) sum → ComesFar reach made sum (new.next q)
  far_whole n sum g all = go g.stops
    where
      go : (new.next q ≡ None) ⊎ IsReached reach n (new.next q) → ComesFar reach made sum (new.next q)
      go (inl over) = inl over
      go (inr (inl reached)) = inr (inl (n, reached, all))
      go (inr (inr named)) = inr (inr named)

  -- steps that ended before the declaration
  pub far_cut : (left n sum : ℕ) → GoesFar old new q (up_to left reach) n → n ≢ left → IsCountOf (made + n) sum → ComesFar reach made sum (new.next q)
  far_cut left n sum g other all = go g.stops
    where
      most : (o : Option ℕ) → Some (fewer left o) ≡ Some n → o ≡ Some n
      most None reached = absurd (other (cc reached))
      most (Some m) reached = let same : min m left ≡ n = cc reached in ap Some (omega (arith, same, other))

      go : (new.next q ≡ None) ⊎ IsReached (up_to left reach) n (new.next q) → ComesFar reach made sum (new.next q)
      go (inl over) = inl over
      go (inr (inl reached)) = inr (inl (n, most reach.most reached, all))
      go (inr (inr named)) = inr (inr named)

  -- and those behind it
  module _ (before mid : Progress) (left first : ℕ) (f : GoesFar before mid q (up_to left reach) first) where
    pub far_both : (n between sum : ℕ) → GoesFar old new q (behind_of first reach) n → IsCountOf (made + first) between → IsCountOf (between + n) sum → ComesFar reach made sum (new.next q)
    far_both n between sum g one two = go g.stops
      where
        total : (m : ℕ) → first ≤ m → n ≡ m - first → IsCountOf (made + first) between → IsCountOf (between + n) sum → IsCountOf (made + m) sum
        total m below is (inl a) (inl b) = inl (omega (arith, below, is, a.0, b.0), omega (arith, below, is, a.0, b.0, b.1))
        total m below is (inl a) (inr b) = inr (b.0, omega (arith, below, is, a.0, b.1))
        total m below is (inr a) (inl b) = inr (omega (arith, a.0, b.0, b.1), omega (arith, below, a.1))
        total m below is (inr a) (inr b) = inr (b.0, omega (arith, below, a.1))

        known : (o : Option ℕ) → reach.most ≡ o → option_map (λ x. x - first) o ≡ Some n → ComesFar reach made sum (new.next q)
        known None is reached = absurd (cc reached)
        known (Some m) is reached =
            let within = f.within (fewer left reach.most) refl in
            let less = fewer_most left reach.most m is in
            let counted = made_below f.count first f.counted in
            let same : m - first ≡ n = cc reached in
            inr (inl (m, is, total m (omega (arith, within, less, counted)) (sym same) one two))

        go : (new.next q ≡ None) ⊎ IsReached (behind_of first reach) n (new.next q) → ComesFar reach made sum (new.next q)
        go (inl over) = inl over
        go (inr (inl reached)) = known reach.most refl reached
        go (inr (inr named)) = inr (inr named)

-- the lines that take steps
pub comes_stepped : (count old new : ℕ) (next : Option StepName) → ComesFar (record { most = Some count; name = None }) old new next → (next ≡ None) ⊎ IsCountOf (old + count) new
comes_stepped count old new next (inl over) = inl over
comes_stepped count old new next (inr (inl reached)) = let same : count ≡ reached.0 = cc reached.1 in inr (subst (λ n. IsCountOf (old + n) new) (sym same) reached.2)
comes_stepped count old new next (inr (inr named)) = absurd (cc named.1)

pub comes_before : (name : StepName) (old new : ℕ) (next : Option StepName) → ComesFar (record { most = None; name = Some name }) old new next → (next ≡ None) ⊎ (next ≡ Some name)
comes_before name old new next (inl over) = inl over
comes_before name old new next (inr (inl reached)) = absurd (cc reached.1)
comes_before name old new next (inr (inr named)) = inr (named.2 ∙ sym named.1)

pub comes_all : (old new : ℕ) (next : Option StepName) → ComesFar (record { most = None; name = None }) old new next → next ≡ None
comes_all old new next (inl over) = over
comes_all old new next (inr (inl reached)) = absurd (cc reached.1)
comes_all old new next (inr (inr named)) = absurd (cc named.1)

-- the steps that a machine makes at one walk are counted
pub counts_walk : (was now : Progress) (q : ℕ) (reach : Reach) (old n sum : ℕ) → GoesFar was now q reach n → IsCountOf (old + n) sum → CountsOn was now old sum
counts_walk was now q reach old n sum g all = (g.count, g.steps, λ steps is. made_on steps g.count n old sum is g.counted all)

-- a line whose call begins makes none
pub counts_called : {E : Type 0} (was now : Progress) (made : ℕ) (asked : Call FlagAnd) (padded : Bool) (result : Result Taken E) → OnOk result (GoesAsSaid was now (Called asked padded))
    → OnOk result (CountsAsSaid was now made made (Called asked padded))
counts_called was now made asked padded (Ok taken) same =
    (0, same ∙ sym (add-zero was.steps), λ steps is. subst (λ n. IsCountOf n made) (sym (add-zero steps)) is)
counts_called was now made asked padded (Err fault) same = tt

-- of one that declares a rank none is counted
pub counts_failed : {E : Type 0} (was now : Progress) (made r : ℕ) (result : Result Taken E) → OnOk result (CountsAsSaid was now made made (Failed r))
counts_failed was now made r (Ok taken) = refl
counts_failed was now made r (Err fault) = tt
