use Rattle.std.proofs.Common.{◌≡◌, ◌+◌, length, take, [], ◌++◌, ap, sym, ◌∙◌, arith, inl, inr, length-append}
use Rattle.std.proofs.lemmas.Bool.{cases_lt}
use Rattle.std.proofs.lemmas.List.{take_all}
use Rattle.std.specs.List.{cons_option}
use Rattle.ulfm_model.specs.History.{spawns}
use Rattle.ulfm_model.proofs.Walks.{spawns_more, stands_at}
use Rattle.ulfm_model.proofs.groups.find_origin.Goals as goal
use Rattle.ulfm_model.proofs.groups.find_origin.Goals.{in-Some+else-count-from, in_default}

pub overflow_add-count : goal.overflow_add-count
overflow_add-count g c = omega arith

pub returns-then-count-from : goal.returns-then-count-from
returns-then-count-from g c =
    let stands = stands_at c.args.history.now c.loop-place.place c.index-history-place.result c.index-history-place.is (omega arith) in
    record { entry = c.index-history-place.result; within = omega arith; stands = stands; makes = sym c.made.ensures ∙ c.in-Some.is; number = omega arith }

pub loop-place-preserved : goal.loop-place-preserved
loop-place-preserved g c =
    let h = c.args.history.now in
    let i = c.loop-place.place in
    let e = c.index-history-place.result in
    let more = spawns_more h i e (stands_at h i e c.index-history-place.is (omega arith)) in
    let long : length (spawns (take (i + 1) h)) ≡ length (spawns (take i h)) + length (cons_option c.made.result []) =
    ap length (more ∙ ap (λ made. spawns (take i h) ++ cons_option made []) (sym c.made.ensures)) ∙ length-append (spawns (take i h)) (cons_option c.made.result []) in
    elim c.match-made.branch [
      | in-Some+else-count-from w ↦
          let one : length (cons_option c.made.result []) ≡ 1 = ap (λ made. length (cons_option made [])) w.in-Some.is in
          record { count = omega (arith, long, one, w.count-is); few = omega (arith, w.count-is); below = λ some. omega (arith, some, w.count-is) }
      | in_default w ↦
          let none : length (cons_option c.made.result []) ≡ 0 = ap (λ made. length (cons_option made [])) w.in_default.is in
          record { count = omega (arith, long, none, w.count-is); few = omega (arith, w.count-is); below = λ some. omega (arith, some, w.count-is) }
    ]

pub returns : goal.returns
returns g c =
    let all : length (spawns (take c.loop-place.place c.args.history.now)) ≡ length (spawns c.args.history.now) =
    ap (λ h. length (spawns h)) (take_all c.loop-place.place c.args.history.now (omega arith)) in
    elim (cases_lt 0 c.args.comm) [ inl some ↦ inr (omega (arith, some, all, c.loop-place.invariant.below some)) | inr none ↦ inl (omega (arith, none)) ]
