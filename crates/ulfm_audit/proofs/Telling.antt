-- What a log tells, entry by entry and piece by piece.
use Rattle.std.proofs.Common.{◌≡◌, ◌≢◌, ℕ, ◌<◌, ◌-◌, ◌*◌, ◌/◌, ◌%◌, Bool, List, [], ◌∷◌, ◌++◌, length, length-append, take, drop, Option, Some, None, refl, sym, ap, subst, ◌∙◌, append-nil, arith}
use Rattle.std.proofs.Math.Nat.{div-add-mod}
use Rattle.std.proofs.lemmas.List.{take-append-drop}
use Rattle.std.specs.Prelude.{IfSome}
use Rattle.std.specs.List.{cons_option}
use Rattle.ulfm_laws.specs.{Flags.{flag_meld}, declared.flag_and.FlagAnd.{FlagAnd}}
use Rattle.ulfm_model.specs.declared.{event.Entry.{Entry}, limits.Limits.{Limits}}
use Rattle.ulfm_model.specs.{History.{History}, Words.{MayOpen}}
use Rattle.ulfm_replica.specs.Replays.{Feeds}
use Rattle.ulfm_script.specs.Ends.{IsTextOf, KnownText}
use Rattle.ulfm_audit.specs.Audits.{AuditsEntries, IsNoLog, Shows, Takes, TakesPieces, entry_lines}
use Rattle.ulfm_audit.specs.{Digests.{digest_of}, Texts.{end_text}}
use Rattle.ulfm_audit.specs.Logs.{IsLogOf, IsPiece, head_bytes, pieces_of, whole_of}

-- lists of lines, joined in either order
pub joined : (a b c : List ℕ) → (a ++ b) ++ c ≡ a ++ (b ++ c)
joined [] b c = refl
joined (x ∷ a) b c = ap (λ (t : List ℕ). x ∷ t) (joined a b c)

-- nothing of a log tells nothing
pub takes_none : (limits : Limits) (h : History FlagAnd) (text : List ℕ) → Takes limits [] h h text text
takes_none limits h text = record { lines = []; shows = (refl, refl); is = sym (append-nil text) }

-- an entry that was fed, and its lines
pub takes_one : (limits : Limits) (e : Entry FlagAnd) (taken : Bool) (old new : History FlagAnd) (before after : List ℕ) → Feeds flag_meld limits e taken old new
    → after ≡ before ++ entry_lines limits e taken new → Takes limits (e ∷ []) old new before after
takes_one limits e taken old new before after feeds is =
    record {
      lines = entry_lines limits e taken new;
      shows = (taken, new, [], feeds, (refl, refl), sym (append-nil (entry_lines limits e taken new)));
      is = is;
    }

-- the lines of a log and of more behind it
shows_on : (limits : Limits) (log more : List (Entry FlagAnd)) (old mid new : History FlagAnd) (a b : List ℕ) → Shows limits old log mid a → Shows limits mid more new b
    → Shows limits old (log ++ more) new (a ++ b)
shows_on limits [] more old mid new a b (same, none) shows =
    subst (λ (t : List ℕ). Shows limits old more new (t ++ b)) (sym none) (subst (λ (h : History FlagAnd). Shows limits h more new b) same shows)
shows_on limits (e ∷ log) more old mid new a b (taken, next, rest, feeds, goes, is) shows =
    (taken, next, rest ++ b, feeds, shows_on limits log more next mid new rest b goes shows, ap (λ (t : List ℕ). t ++ b) is ∙ joined (entry_lines limits e taken next) rest b)

pub takes_on : (limits : Limits) (log more : List (Entry FlagAnd)) (old mid new : History FlagAnd) (a b c : List ℕ) → Takes limits log old mid a b → Takes limits more mid new b c
    → Takes limits (log ++ more) old new a c
takes_on limits log more old mid new a b c x y =
    record {
      lines = x.lines ++ y.lines;
      shows = shows_on limits log more old mid new x.lines y.lines x.shows y.shows;
      is = y.is ∙ (ap (λ (t : List ℕ). t ++ y.lines) x.is ∙ joined a x.lines y.lines);
    }

-- entries in front of others
fronted : (read : Option (Entry FlagAnd)) (a b : List (Entry FlagAnd)) → cons_option read a ++ b ≡ cons_option read (a ++ b)
fronted None a b = refl
fronted (Some e) a b = refl

-- the log of pieces and of more behind them
log_on : (pieces others : List (List ℕ)) (log more : List (Entry FlagAnd)) → IsLogOf pieces log → IsLogOf others more → IsLogOf (pieces ++ others) (log ++ more)
log_on [] others log more none is = subst (λ (l : List (Entry FlagAnd)). IsLogOf others (l ++ more)) (sym none) is
log_on (piece ∷ pieces) others log more (read, rest, of, goes, is) other =
    (read, rest ++ more, of, log_on pieces others rest more goes other, ap (λ (l : List (Entry FlagAnd)). l ++ more) is ∙ fronted read rest more)

-- no pieces tell nothing
pub pieces_none : (limits : Limits) (h : History FlagAnd) (text : List ℕ) → TakesPieces limits [] h h text text
pieces_none limits h text = record { log = []; is_log = refl; takes = takes_none limits h text }

-- one piece, which is an entry's bytes, or none
pub piece_some : (limits : Limits) (piece : List ℕ) (e : Entry FlagAnd) (old new : History FlagAnd) (before after : List ℕ) → IsPiece piece (Some e)
    → Takes limits (e ∷ []) old new before after → TakesPieces limits (piece ∷ []) old new before after
piece_some limits piece e old new before after of takes = record { log = e ∷ []; is_log = (Some e, [], of, refl, refl); takes = takes }

pub piece_none : (limits : Limits) (piece : List ℕ) (h : History FlagAnd) (text : List ℕ) → IsPiece piece None → TakesPieces limits (piece ∷ []) h h text text
piece_none limits piece h text of = record { log = []; is_log = (None, [], of, refl, refl); takes = takes_none limits h text }

-- pieces, and more behind them
pub pieces_on : (limits : Limits) (pieces others : List (List ℕ)) (old mid new : History FlagAnd) (a b c : List ℕ) → TakesPieces limits pieces old mid a b
    → TakesPieces limits others mid new b c → TakesPieces limits (pieces ++ others) old new a c
pieces_on limits pieces others old mid new a b c x y =
    record {
      log = x.log ++ y.log;
      is_log = log_on pieces others x.log y.log x.is_log y.is_log;
      takes = takes_on limits x.log y.log old mid new a b c x.takes y.takes;
    }

-- what was told of the bytes behind a head, piece by piece, and the last lines
pub entries_audited : (limits : Limits) (bytes whole : List ℕ) (pieces : List (List ℕ)) (old new : History FlagAnd) (before lines shown : List ℕ) (taken digest : ℕ)
    → pieces ≡ pieces_of bytes → whole ≡ whole_of bytes → old ≡ [] → before ≡ [] → TakesPieces limits pieces old new before lines → taken ≡ length new
    → digest ≡ digest_of whole → shown ≡ lines ++ end_text (length pieces) taken digest → AuditsEntries limits bytes shown
entries_audited limits bytes whole pieces old new before lines shown taken digest pieces_are whole_is nobody nothing takes count digest_is is =
    record {
      history = new;
      lines = lines;
      takes =
          subst (λ (ps : List (List ℕ)). TakesPieces limits ps [] new [] lines) pieces_are
          (subst (λ (h : History FlagAnd). TakesPieces limits pieces h new [] lines) nobody
          (subst (λ (t : List ℕ). TakesPieces limits pieces old new t lines) nothing takes));
      shown_is =
          is
          ∙ (ap (λ (ps : List (List ℕ)). lines ++ end_text (length ps) taken digest) pieces_are
          ∙ (ap (λ (n : ℕ). lines ++ end_text (length (pieces_of bytes)) n digest) count
          ∙ ap (λ (n : ℕ). lines ++ end_text (length (pieces_of bytes)) (length new) n) (digest_is ∙ ap digest_of whole_is)));
    }

-- all bytes but the last few that are no whole piece
pub whole_is : (bytes : List ℕ) (few : ℕ) → few ≡ length bytes % 24 → take (length bytes - few) bytes ≡ whole_of bytes
whole_is bytes few is =
    let n : length bytes - few ≡ length bytes / 24 * 24 = omega (arith, is, div-add-mod (length bytes) 24) in
    ap (λ (k : ℕ). take k bytes) n

-- a text, cut behind its head
pub text_cut : (known : KnownText) (text cut head entries : List ℕ) → IsTextOf known text → cut ≡ text → head ≡ take 24 cut → entries ≡ drop 24 cut
    → IsTextOf known (head ++ entries)
text_cut known text cut head entries is same front back =
    subst (IsTextOf known) (sym same ∙ (sym (take-append-drop 24 cut) ∙ (ap (λ (h : List ℕ). h ++ drop 24 cut) (sym front) ∙ ap (λ (t : List ℕ). head ++ t) (sym back)))) is

-- a text that is shorter than a head is no log
pub short_is_none : (known : KnownText) (text cut : List ℕ) → IsTextOf known text → cut ≡ text → length cut < 24 → IfSome known IsNoLog
short_is_none None text cut is same short = tt
short_is_none (Some xs) text cut is same short = λ limits entries may begins.
    absurd (omega (arith, short, ap length (same ∙ (is ∙ begins)), length-append (head_bytes limits) entries))

-- .. and one whose first bytes are no head
pub headless_is_none : (known : KnownText) (text cut head : List ℕ) → IsTextOf known text → cut ≡ text → head ≡ take 24 cut
    → ((limits : Limits) → MayOpen limits → head ≢ head_bytes limits) → IfSome known IsNoLog
headless_is_none None text cut head is same front none = tt
headless_is_none (Some xs) text cut head is same front none = λ limits entries may begins.
    none limits may (front ∙ ap (λ (t : List ℕ). take 24 t) (same ∙ (is ∙ begins)))
