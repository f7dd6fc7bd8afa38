-- `into_loose` compares the pointer with null, and has the box where it isn't.
use Rattle.std.proofs.Common.{◌≡◌, List, [], ◌∷◌, ◌++◌, refl, sym, subst, lit<}
use mir.Val.{Val, vptr, vcons, vnil}
use base.Logic.{SProp, ent, id⊢, emp}
use base.Fml.{ftrue}
use prog.Wp.{WpFn}
use types.Kit.{‵, raw, ◌⊛◌, at_ret, ◌$◌, ◌∵◌, !, qed, by, move, keep, drop, split, fsplit, fjoin, suffices, use0, use1}
use types.Run.{stop, fld, lit, of_opd, bin, no_more, and_then, first, branches, skips, exec, returns, returns_within, enter}
use types.ByLocal.{alloc_all, pass_all, free_all, look_at, get, get_in, sets, env}
use types.Part.{agg, sub, whole}
use types.Match.{live}
use contract.Monad.{fact, fact_i}
use contract.Running.{tables}
use denote.Exit.{yes}
use denote.RattleType.{RattleType, owns}
use denote.RawPtr.{Ptr, block_ptr, null_ptr, tests_null}
use denote.Signature.{types_at, type_at, plain}
use denote.Steps.{nothing}
use denote.Param.{layout}
use denote.Triple.Walked.{Stays, stay_dropped, walk_of, Goes-dropped}
use Rattle.std.proofs.raw_atomic.Walks.{proved_at, leaves}
use Rattle.std.proofs.option.Made.{Some-of, none_of}
use Rattle.std.proofs.cell.Inside.{Good}
use Rattle.std.specs.declared.option.Option.TheVariants.{None, Some}
use Rattle.std.specs.contracts.alloc.Global as heap
use Rattle.std.proofs.alloc.Global.TheLaws as heap_laws
use Rattle.std.specs.contracts.impls.GlobalAllocator.TheImpl.{ghosts}
use Rattle.std.proofs.alloc.Calls.{handle_tells}
use Rattle.std_alloc.proofs.ResultValues.{and_tt}
use Rattle.ulfm_c.proofs.Values.{both, Loose, al, loose_good, loose_in}
use Rattle.ulfm_c.proofs.Handles.{Handle, alone, handle_out, either_owned}
use Rattle.ulfm_c.specs.contracts.party.Party as party
use Rattle.ulfm_c.specs.contracts.handle.Handle.into_loose as f
use Rattle.ulfm_c.proofs.handle.Handle.into_loose.Statement.{statement}
use Rattle.ulfm_c.proofs.handle.Handle.into_loose.Code as code

abbrev R : RattleType
R = party.the_row

abbrev Z : RattleType
Z = heap.the_row

abbrev hs : Stays f.ended.signature.params f.ended.kept
hs = (stay_dropped (plain (λ _. Handle)) yes, (stay_dropped (plain (λ _. Z)) yes, tt))

pub into_loose_spec : {M : Type 1} → statement M
into_loose_spec 𝓤 𝓛 𝓜 𝓡 wired =
    let c = f.clauses 𝓛 𝓜.mem 𝓡.returns in let 𝓣 = tables 𝓤 𝓛.H 𝓜 𝓡 𝓡.env in let LZ = heap_laws.the_row_laws in let Lr : RattleType = Loose R Z LZ ghosts in
    proved_at 𝓛 f.ended hs c 𝓜 𝓡 (Goes-dropped 𝓛 0 (plain (λ _. Handle)) yes (λ κs x w. refl), (Goes-dropped 𝓛 0 (plain (λ _. Z)) yes (λ κs x w. refl), tt))
    f.Key.name code.function (code.unfolded 𝓤 𝓛.H 𝓜 𝓡 wired) (λ z are.
    let d = z.0.3.0 in let a = z.0.3.1.0 in let Post : Val → SProp 𝓤 = (walk_of 𝓛 f.ended hs c).post z in
    let Out : RattleType = type_at f.ended.signature.result z.0.0 in
    let Run : List Val → SProp 𝓤 = λ ws. WpFn 𝓤 𝓛.H 𝓣.C 𝓣.Λ code.function ws Post in
    qed 𝓛 ((‵ ftrue ⊛ ‵ (owns (types_at f.ended.signature.params z.0.0) z.0.3 z.0.4)) ∷ raw ((c z.0.0 z.0.3).requires z.1) ∷ []) ∵ move ! (1 ∷ []) $ drop ! $
    split ! $ move ! (1 ∷ []) $ fsplit ! $
    handle_out ! d z.0.4.0 (λ ew. move ! (1 ∷ []) $ fsplit ! $ handle_tells (al R Z LZ ghosts) ! a z.0.4.1.0 (λ h ea fits.
    -- [the allocator; nothing; what the handle holds; the tokens]
    let to : (q : Ptr) → d.at ≡ q → ent 𝓤 (Run (alone q ∷ h ∷ [])) (Run (z.0.4.0 ++ (z.0.4.1.0 ++ []))) = λ q is.
    subst (λ (us : List Val). ent 𝓤 (Run (alone q ∷ h ∷ [])) (Run us)) (sym (λ i. ew i ++ (ea i ++ [])))
    (subst (λ (r : Ptr). ent 𝓤 (Run (alone q ∷ h ∷ [])) (Run (alone r ∷ h ∷ []))) (sym is) (id⊢ 𝓤 (Run (alone q ∷ h ∷ [])))) in
    move ! (2 ∷ []) $ either_owned 𝓛 R a ! d.at d.party
    (λ is none. suffices ! (Run (alone null_ptr ∷ h ∷ [])) (to null_ptr is) $
    enter ! 𝓣.C 𝓣.Λ code.function (alone null_ptr ∷ h ∷ []) Post $ alloc_all ! (λ l. pass_all ! refl ((tt, (record { fits = lit< tt }, tt)), (fits, tt)) $
    sets ! (of_opd ! (get_in ! (fld ! refl (stop !)) (sub ! 0 refl (whole !)))) refl (tt, record { fits = lit< tt }) $
    sets ! (bin ! (get ! refl) (lit ! tt) tt) refl (tt, tt) $
    first ! $ branches ! (get ! refl)
    (λ _. sets ! (agg ! (and_then ! (lit ! tt) (no_more !))) refl (tt, (record { fits = lit< tt }, tt)) $ returns_within ! Post refl (look_at ! 0 refl) $
    free_all ! refl $
    use0 𝓛 (‵ (Out.own_val None (live 0 vnil ∷ []))) (none_of 𝓛 Lr) $ use0 𝓛 (raw (fact 𝓤 (d.party ≡ None))) (fact_i 𝓤 (d.party ≡ None) (emp 𝓤) none) $
    nothing ! $ nothing ! $ fjoin ! $ nothing ! $ fjoin ! $ keep ! (5 ∷ 0 ∷ 2 ∷ 1 ∷ []) $
    by ! (leaves 𝓛 f.ended hs c z (live 0 vnil) None (tt, (tt, tt)) (tt, (tt, tt))))
    (λ wrong. absurd wrong)))
    (λ b o x is some t. let made : Val = both (vptr b o) h in let typed = loose_good R Z LZ ghosts b o h fits in let v : Val = live 1 (vcons made vnil) in
    let r : Lr.Denot = record { at = block_ptr b o; alloc = a; value = x } in
    let good : Good (layout Out) v = (and_tt _ typed.0, (record { fits = lit< tt }, (typed.1, tt))) in
    suffices ! (Run (alone (block_ptr b o) ∷ h ∷ [])) (to (block_ptr b o) is) $
    enter ! 𝓣.C 𝓣.Λ code.function (alone (block_ptr b o) ∷ h ∷ []) Post $ alloc_all ! (λ l. pass_all ! refl ((tt, (tt, tt)), (fits, tt)) $
    sets ! (of_opd ! (get_in ! (fld ! refl (stop !)) (sub ! 0 refl (whole !)))) refl (tt, tt) $
    sets ! (bin ! (get ! refl) (lit ! tt) (tests_null (block_ptr b o) t)) refl (tt, tt) $
    first ! $ branches ! (get ! refl) (λ wrong. absurd wrong)
    (λ _. skips ! $ exec ! 𝓣.C 𝓣.Λ (env code.Mir.locals l) code.Mir.t-4 (at_ret _ Post) $ sets ! (of_opd ! (get ! refl)) refl (tt, tt) $
    sets ! (agg ! (and_then ! (get ! refl) (and_then ! (get ! refl) (no_more !)))) refl typed $
    sets ! (agg ! (and_then ! (lit ! tt) (and_then ! (get ! refl) (no_more !)))) refl good $
    returns ! (look_at ! 0 refl) $ free_all ! refl $ loose_in R Z LZ ghosts ! b o h a x $ use1 𝓛 (‵ (Out.own_val (Some r) (v ∷ []))) (Some-of 𝓛 Lr r made) $
    use0 𝓛 (raw (fact 𝓤 (d.party ≡ Some x))) (fact_i 𝓤 (d.party ≡ Some x) (emp 𝓤) some) $
    nothing ! $ nothing ! $ fjoin ! $ nothing ! $ fjoin ! $ keep ! (4 ∷ 0 ∷ 2 ∷ 1 ∷ []) $
    by ! (leaves 𝓛 f.ended hs c z v (Some r) (tt, (tt, tt)) (tt, (tt, tt)))))))))
