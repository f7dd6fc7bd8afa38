-- How the number of an option is read.
use Rattle.std.proofs.Common.{◌≡◌, ◌∙◌, ℕ, List, Option, Some, None, Result, Ok, Err, refl, sym, subst, ap, codes}
use Rattle.std.proofs.lemmas.Option.{same_Some}
use Rattle.std.specs.Str.Parse.{ParsesUnsigned}
use Rattle.clap.specs.Matches.{TriesOne}
use Rattle.clap.specs.Words.{Row, one_of}
use Rattle.ulfm_command.specs.CommandLines.{IsExploreOf, IsNumberRead, IsOptional, IsRaceOf}
use Rattle.ulfm_command.specs.declared.asked.{ExploreOptions.{ExploreOptions}, RaceOptions.{RaceOptions}}

-- an option that is read by a parser of so many bits is read as its number
pub is_read : (bits : ℕ) (E : Type 0) (G : List ℕ → Result ℕ E → Type 0) → ((t : List ℕ) (x : Result ℕ E) → G t x → ParsesUnsigned bits 10 t x)
    → (given : Option (List ℕ)) (r : Result (Option ℕ) E) → (given ≡ None → r ≡ Ok None)
    → ((t : List ℕ) → given ≡ Some t → TriesOne G t r) → IsNumberRead bits given r
is_read bits E G only None r none value = subst (λ (x : Result (Option ℕ) E). IsNumberRead bits None x) (sym (none refl)) refl
is_read bits E G only (Some t) (Ok None) none value = absurd (value t refl)
is_read bits E G only (Some t) (Ok (Some n)) none value =
    let parsed = only t (Ok n) (value t refl) in
    (parsed.0.0, parsed.0.1, parsed.1)
is_read bits E G only (Some t) (Err e) none value = refuses
  where
    refuses : (number : Option ℕ) → IsOptional bits (Some t) number → ⊥
    refuses None nothing = nothing
    refuses (Some n) is = only t (Err e) (value t refl) (is.0, is.1)

-- an option is read in one way
pub same_option : (bits : ℕ) (given : Option (List ℕ)) (m n : Option ℕ) → IsOptional bits given m → IsOptional bits given n → m ≡ n
same_option bits None m n a b = a ∙ sym b
same_option bits (Some t) None n a b = absurd a
same_option bits (Some t) (Some m) None a b = absurd b
same_option bits (Some t) (Some m) (Some n) a b = ap Some (a.2 ∙ sym b.2)

abbrev made : ℕ → ℕ → Option ℕ → RaceOptions
made a b c = record { ranks = a; rounds = b; fail = c }

-- the options of a race are read in one way
pub same_race : (rows : List Row) (o p : RaceOptions) → IsOptional 16 (one_of (codes "ranks") rows) (Some o.ranks) → IsOptional 16 (one_of (codes "rounds") rows) (Some o.rounds)
    → IsOptional 16 (one_of (codes "fail") rows) o.fail → IsRaceOf rows p → o ≡ p
same_race rows o p ranks rounds fail other =
    let a : o.ranks ≡ p.ranks = same_Some {A = ℕ} _ _ (same_option 16 _ _ _ ranks other.ranks) in
    let b : o.rounds ≡ p.rounds = same_Some {A = ℕ} _ _ (same_option 16 _ _ _ rounds other.rounds) in
    let c : o.fail ≡ p.fail = same_option 16 _ _ _ fail other.fail in
    ap (λ x. made x o.rounds o.fail) a ∙ (ap (λ x. made p.ranks x o.fail) b ∙ ap (λ x. made p.ranks p.rounds x) c)

abbrev explored : Option ℕ → Option ℕ → ExploreOptions
explored a b = record { most = a; outcome = b }

-- the options of an exploration are read in one way
pub same_explore : (rows : List Row) (o p : ExploreOptions) → IsExploreOf rows o → IsExploreOf rows p → o ≡ p
same_explore rows o p a b =
    let most : o.most ≡ p.most = same_option 32 _ _ _ a.most b.most in
    let outcome : o.outcome ≡ p.outcome = same_option 32 _ _ _ a.outcome b.outcome in
    ap (λ x. explored x o.outcome) most ∙ ap (λ x. explored p.most x) outcome
