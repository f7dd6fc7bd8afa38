-- What the words of a command line ask for, they ask for alone.
use Rattle.std.proofs.Common.{◌≡◌, ◌∙◌, ℕ, ◌+◌, ◌*◌, ◌==◌, Bool, true, false, List, Some, None, refl, sym, ap, subst, codes, eq-eqb, slice_index}
use Rattle.std.proofs.lemmas.Option.{same_Some, some_pair_parts}
use Rattle.clap.specs.Words.{Row, Text, subcommand_of}
use Rattle.ulfm_command.specs.declared.asked.{CheckForm.{CheckForm}, DrawOptions.{DrawOptions}, ExploreOptions.{ExploreOptions}, RaceOptions.{RaceOptions}}
use Rattle.ulfm_command.specs.declared.asked.{Task.{Task}, Task.TheVariants.{Run, Migrate, Check, Draw, Explore, Replay, Race}}
use Rattle.ulfm_command.specs.CommandLines.{Arguments, Asks, IsDrawRead, IsExploreOf, IsGiven, IsRaceOf, Named, Names, check_form, ulfm, verb}
use Rattle.ulfm_command.proofs.Numbers.{same_explore, same_race}

-- the first two letters of a word, as one number
abbrev letters : Text → ℕ
letters word = slice_index word 0 + 256 * slice_index word 1

-- words that differ there are not one
apart : (t u : Text) → (letters t == letters u) ≡ false → t ≡ u → ⊥
apart t u differ same =
    let bad : true ≡ false = sym (eq-eqb (letters t) (letters u) (ap letters same)) ∙ differ in
    cc

-- the options of a picture are read in one way
same_draw : (rows : List Row) (o p : DrawOptions) → IsDrawRead rows o → IsDrawRead rows p → o ≡ p
same_draw rows o p a b =
    let text : o.text ≡ p.text = sym a.text ∙ b.text in
    let ascii : o.ascii ≡ p.ascii = sym a.ascii ∙ b.ascii in
    ap (λ (t : Bool). record { text = t; ascii = o.ascii }) text ∙ ap (λ (t : Bool). record { text = p.text; ascii = t }) ascii

-- one name and its options are for one task
once : (rows : List Row) (a b : Task) → verb a ≡ verb b → IsGiven rows a → IsGiven rows b → a ≡ b
once rows (Run f) (Run g) same one other = ap Run (sym one ∙ other)
once rows Migrate Migrate same one other = refl
once rows (Check f) (Check g) same one other = ap Check (same_Some {A = CheckForm} _ _ (sym one ∙ other))
once rows (Draw o) (Draw p) same one other = ap Draw (same_draw rows o p one other)
once rows (Explore o) (Explore p) same one other = ap Explore (same_explore rows o p one other)
once rows Replay Replay same one other = refl
once rows (Race o) (Race p) same one other = ap Race (same_race rows o p one.ranks one.rounds one.fail other)
once rows a b same one other = absurd (apart (verb a) (verb b) refl same)

-- the task that a named command is for has that name and these options
named_task : (named : Named) (name : Text) (rows : List Row) (task : Task) → named ≡ Some (name, rows) → Names named task → (name ≡ verb task) × IsGiven rows task
named_task named name rows task is names =
    let parts = some_pair_parts {A = Text} {B = List Row} _ _ _ _ (sym is ∙ names.1) in
    (parts.0, subst (λ (r : List Row). IsGiven r task) (sym parts.1) names.2)

-- a named command is for one task
names_once : (named : Named) (a b : Task) → Names named a → Names named b → a ≡ b
names_once named a b x y =
    let other = named_task named (verb a) x.0 b x.1 y in
    once x.0 a b other.0 x.2 other.1

-- words ask for one task
pub asks_once : (words : Arguments) (a b : Task) → Asks words a → Asks words b → a ≡ b
asks_once words a b x y = names_once (subcommand_of ulfm words) a b x.1 y.1
