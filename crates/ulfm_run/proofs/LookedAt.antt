-- The last step of a look: what it found is what has failed then.
use Rattle.std.proofs.Common.{◌≡◌, ℕ, true, false, List, [], ◌∷◌, ◌++◌, Some, None, is_some, not, refl, ap, sym, ◌∙◌, subst, arith, append-nil, append_assoc, IsFalse}
use mathlib.Core.List.{IsPrefix}
use Rattle.ulfm_model.specs.declared.call.Call.TheVariants as call
use Rattle.ulfm_model.specs.declared.{call.Call.{Call}, call.Request.{Request}, event.Caller.TheVariants.{Rank}, refusal.Refusal.TheVariants.{Idle}}
use Rattle.ulfm_model.specs.{Answers.{first_refusal, refusal_of, refusal_on}, History.{History, entries_by, failures, has}, Records.{Held, Record, held_at}}
use Rattle.ulfm_model.specs.Terms.{comm_of}
use Rattle.ulfm_model.proofs.{Histories.{failures_begin}, Lists.{prefix_trans}, Stable.{fits_stays}}
use Rattle.ulfm_model.specs.Records.{moment}
use Rattle.ulfm_words.specs.Steps.{IsView, Sight, Over as Named, view_at}
use Rattle.ulfm_words.proofs.Trails.{did_none, did_prefix}
use Rattle.ulfm_laws.specs.declared.summary.CtxMask.{CtxMask}
use Rattle.ulfm_comm.specs.{Look.{HasLooked, Looked as HasFound}, Spawning.{HasReadMask}}
use Rattle.ulfm_comm.specs.Phase.{Stands, StandsAt, UnderWay, is_looking}
use Rattle.ulfm_comm.specs.declared.phases.phase.{Phase.{Phase}, Phase.TheVariants.{Over, Begun, Looking, Spreading, Settling, Arriving, Revoking, Asking, Peeking, Marking, Reading, ReadingOn, Spawning, Waiting, Checking}}
use Rattle.ulfm_comm.proofs.{Polls.{not_refused}, WholeCall.{held_before}}
use Rattle.ulfm_comm.specs.Local.{frame, local}
use Rattle.ulfm_comm.specs.Spawning.{decided_as}
use Rattle.ulfm_run.proofs.ByPhase.{in_look}
use Rattle.ulfm_comm.specs.Prepared.{Prepared}

-- a history between two that are one
pub squeeze : {E : Type 0} (a b c : List E) → IsPrefix a b → IsPrefix b c → a ≡ c → b ≡ c
squeeze {E} a b c p q same =
    let round : a ++ (p.0 ++ q.0) ≡ a ++ [] = sym (append_assoc a p.0 q.0) ∙ (ap (λ w. w ++ q.0) p.1 ∙ (q.1 ∙ (sym same ∙ sym (append-nil a)))) in
    let none = nothing p.0 q.0 (drop_front a (p.0 ++ q.0) [] round) in
    sym (append-nil b) ∙ (ap (λ w. b ++ w) (sym none) ∙ q.1)
  where
    nothing : (xs ys : List E) → xs ++ ys ≡ [] → ys ≡ []
    nothing [] ys is = is
    nothing (x ∷ xs) ys is = absurd (cc is)

    drop_front : (xs ys zs : List E) → xs ++ ys ≡ xs ++ zs → ys ≡ zs
    drop_front [] ys zs is = is
    drop_front (x ∷ xs) ys zs is = drop_front xs ys zs (cc is)

-- what is known of a look that has ended
pub record Found {P : Type 0} (asked : Call P) (old own : Record) (before now : History P) : Type 0 where
  pub look : History P
  pub begins : IsPrefix before look
  pub ends : IsPrefix look now
  pub same : own ≡ record old { seen = own.seen }
  pub low : IsPrefix (failures look) own.seen
  pub high : IsPrefix own.seen (failures now)
  pub not_declared : IsFalse (has (failures look) old.number)
  pub not_refused : refusal_of old asked ≡ None

-- a poll with a request isn't refused
poll_passes : (P : Type 0) (old : Record) (c : ℕ) (x : Held) (request : Request) → held_at old c ≡ Some x → x.request ≡ Some request → refusal_of {P = P} old (call.Poll old.number c) ≡ None
poll_passes P old c x request held open_is =
    ap (λ w. refusal_on {P = P} old w (call.Poll old.number c)) held ∙ ap (λ r. first_refusal ((not (is_some r), Idle) ∷ [])) open_is

module _ {P : Type 0} (meld : P → P → P) (name : Named P) (asked : Call P) (old : Record) (before : Sight P) (prepared : Prepared) (own : Record) (now : Sight P) (in_use : IsFalse old.refused) where
  -- where exactly what the look found was seen
  just_found : (look : History P) → IsPrefix before.seen look → IsPrefix look now.seen → own ≡ record old { seen = failures look } → IsFalse (has (failures look) old.number) → refusal_of old asked ≡ None → Found asked old own before.seen now.seen
  just_found look begins ends record_is not_declared not_refused =
      let seen : own.seen ≡ failures look = ap (λ (w : Record). w.seen) record_is in
      record {
        look = look;
        begins = begins;
        ends = ends;
        same = record_is ∙ ap (λ s. record old { seen = s }) (sym seen);
        low = ([], append-nil (failures look) ∙ sym seen);
        high = subst (λ s. IsPrefix s (failures now.seen)) (sym seen) (failures_begin look now.seen ends);
        not_declared = not_declared;
        not_refused = not_refused;
      }

  -- the same of the poll of a request
  polled_found : (c : ℕ) (look : History P) (x : Held) (request : Request) → c ≡ comm_of asked → asked ≡ call.Poll old.number (comm_of asked) → HasFound false before.seen look old own → IsPrefix look now.seen → held_at own c ≡ Some x → x.request ≡ Some request
      → Found asked old own before.seen now.seen
  polled_found c look x request c_is polls looked ends held open_is =
      just_found look (did_prefix false [] before.seen look looked.did) ends looked.record_is looked.not_declared
      (ap (refusal_of {P = P} old) polls ∙ poll_passes P old (comm_of asked) x request (held_before meld name.limits false before.seen look old own looked (comm_of asked) (Some x) (subst (λ w. held_at own w ≡ Some x) c_is held)) open_is)

  -- of a shrink's poll that comes by its communicator
  decided_found : (k count : ℕ) (mask : CtxMask) (x : Held) → asked ≡ call.Poll old.number (comm_of asked) → HasReadMask (frame meld name.limits false) (comm_of asked) (decided_as k mask count) x (moment old before.seen) (moment own now.seen) → Found asked old own before.seen now.seen
  decided_found k count mask x polls d =
      let m = d.said.marked in
      let seen : d.mid.seen ≡ failures m.since.look = ap (λ (w : Record). w.seen) m.since.looked.record_is in
      record {
        look = m.since.look;
        begins = did_prefix false [] before.seen m.since.look m.since.looked.did;
        ends = prefix_trans m.since.look d.decided now.seen (prefix_trans m.since.look m.marked d.decided (did_prefix false (entries_by (Rank old.number) m.marks.own) m.since.look m.marked m.marks.did) (did_prefix false [] m.marked d.decided m.waited)) (did_prefix false [] d.decided now.seen d.waited);
        same = d.own_is ∙ ap (λ (w : Record). record w { seen = own.seen }) m.since.looked.record_is;
        low = subst (λ s. IsPrefix s own.seen) seen d.goes_on;
        high = d.begins;
        not_declared = m.since.looked.not_declared;
        not_refused = ap (refusal_of {P = P} old) polls ∙ not_refused meld name.limits false before.seen old d.mid (comm_of asked) true k x d.decided m;
      }

  looked_found : (p : HasLooked (frame meld name.limits false) asked (moment old before.seen) (moment own now.seen)) → Found asked old own before.seen now.seen
  looked_found l = just_found l.look (did_prefix false [] before.seen l.look l.looked.did) (did_prefix false [] l.look now.seen l.waited) l.looked.record_is l.looked.not_declared l.passed

  pub found_by_phase : (phase : Phase P) → is_looking phase ≡ false → StandsAt meld false asked (local old (view_at name before)) phase prepared (local own (view_at name now)) → Found asked old own before.seen now.seen
  found_by_phase Over past p = absurd (cc (p.0, in_use))
  found_by_phase Begun past p = absurd (cc past)
  found_by_phase Looking past p = absurd (cc past)
  found_by_phase (Spreading request offer) past p = looked_found p.0
  found_by_phase (Settling request offer) past p = looked_found p.0
  found_by_phase (Arriving round) past p = looked_found p.0
  found_by_phase Revoking past p = looked_found p.0
  found_by_phase Asking past p = looked_found p.0
  found_by_phase (Peeking peek shrinks) past p =
      let m = p.1 in polled_found (comm_of asked) m.since.look m.x _ refl p.0 m.since.looked (did_prefix false [] m.since.look now.seen m.waited) m.since.held m.open_is
  found_by_phase (Marking marks blocks shrinks) past p =
      let m = p.1 in
      polled_found (comm_of asked) m.since.look m.x _ refl p.0 m.since.looked (prefix_trans m.since.look m.marked now.seen (did_prefix false (entries_by (Rank old.number) m.has_marked.own) m.since.look m.marked m.has_marked.did) (did_prefix false [] m.marked now.seen m.waited)) m.since.held m.open_is
  found_by_phase (Reading reading shrinks) past p =
      let m = p.1.marked in
      polled_found (comm_of asked) m.since.look p.1.x _ refl p.0 m.since.looked (prefix_trans m.since.look m.marked now.seen (did_prefix false (entries_by (Rank old.number) m.marks.own) m.since.look m.marked m.marks.did) (did_prefix false [] m.marked now.seen m.waited)) m.since.held m.open_is
  found_by_phase (ReadingOn on made) past p = decided_found made.round made.count made.mask p.1 p.0 p.2
  found_by_phase (Spawning append context reach) past p = decided_found p.1.round p.1.count p.1.mask p.1.x p.0 p.1.decided
  found_by_phase (Waiting arrivals) past p =
      let w = p.3 in polled_found (comm_of asked) w.since.look p.2 _ refl p.0 w.since.looked (did_prefix false [] w.since.look now.seen w.waited) w.since.held w.open_is
  found_by_phase (Checking missing) past p =
      let i = p.2 in
      let w = i.waits in
      polled_found (comm_of asked) w.since.look i.x _ refl p.0 w.since.looked (prefix_trans w.since.look p.1 now.seen (did_prefix false [] w.since.look p.1 w.waited) (did_prefix false [] p.1 now.seen i.waited)) w.since.held w.open_is

-- where no event came in between, the look has found all failures, and they were seen
pub found_all : {P : Type 0} (asked : Call P) (old own : Record) (before now : History P) (f : Found asked old own before now) → before ≡ now → (failures f.look ≡ failures now) × (own.seen ≡ failures now)
found_all asked old own before now f same =
    let all = ap failures (squeeze before f.look now f.begins f.ends same) in (all, squeeze (failures f.look) own.seen (failures now) f.low f.high all)

-- a call in its look may as well begin now
pub begins_again : {P : Type 0} (meld : P → P → P) (name : Named P) (old : Record) (before : Sight P) (doing : UnderWay P) (own : Record) (now : Sight P) → is_looking doing.phase ≡ true → Stands meld false (local old (view_at name before)) doing (local own (view_at name now)) → IsView meld (view_at name now) → IsPrefix before.seen now.seen
    → Stands meld false (local old (view_at name now)) doing (local own (view_at name now))
begins_again {P} meld name old before doing own now looking s of begins =
    let At : Phase P → Sight P → Type 0 = λ phase start. StandsAt meld false doing.asked (local old (view_at name start)) phase doing.prepared (local own (view_at name now)) in
    let again = in_look (λ (phase : Phase P). At phase before → At phase now) (λ p. (p.0, p.1, did_none false now.seen)) (λ p. (p.0, p.1, did_none false now.seen, p.3)) doing.phase looking in
    record { fits = fits_stays meld name.limits before.seen now.seen old begins of.legal s.fits; mine = s.mine; onward = omega arith; at = again s.at }
