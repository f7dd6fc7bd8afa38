-- Texts that were judged, and given back.
use Rattle.std.proofs.Common.{◌≡◌, ℕ, List, [], length, refl, arith}
use Rattle.ulfm_story.specs.Judged.{IsVerdict}
use Rattle.ulfm_trace.specs.declared.verdict.{Verdict.{Verdict}, Verdict.TheVariants.{Legal, Illegal}}
use Rattle.ulfm_draw.specs.{Columns.{own_lines}, Drawings.{given_back}}
use Rattle.ulfm_draw.proofs.Rows.{all_taken}

-- a text that was judged is given back by its own lines
pub own_given : (text : List ℕ) (verdict : Verdict) → IsVerdict text verdict → own_lines verdict text ≡ given_back verdict text
own_given text Legal legal = all_taken [] text (length text) (omega arith) legal.3
own_given text (Illegal line why) bad = refl
