-- What is written out for C.
use Rattle.std.specs.Prelude.{◌≡◌, ◌++◌, ℕ, List, false, drop, length, take}
use Rattle.ulfm_laws.specs.declared.flag_and.FlagAnd.{FlagAnd}
use Rattle.ulfm_comm.specs.declared.calls.polled.Polled.{Polled}
use Rattle.ulfm_comm.specs.declared.calls.polled.Polled.TheVariants.{Pending, Agreed, Shrunk, Done}
use Rattle.ulfm_c.specs.declared.polled.PolledReply.{PolledReply}

-- the array that a call was lent, as it was and as it is, and the count that it wrote
pub record Lent : Type 0 where
  pub old : List ℕ
  pub new : List ℕ
  pub count : ℕ

abbrev pub lent : List ℕ → List ℕ → ℕ → Lent
lent old new count = record { old = old; new = new; count = count }

-- A list is written out: as much of it as there is room for, and how long it is. What is behind it in the array is as it was.
pub record Lists (xs : List ℕ) (out : Lent) : Type 0 where
  pub written : out.new ≡ take (length out.old) xs ++ drop (length xs) out.old
  pub count_is : out.count ≡ length xs

abbrev pub HasNoFlag : PolledReply → Type 0
HasNoFlag out = (out.flag ≡ 0) × (out.failed ≡ 0) × (out.raised ≡ false)

abbrev pub HasNoComm : PolledReply → Type 0
HasNoComm out = (out.comm ≡ 0) × (out.context ≡ 0) × (out.size ≡ 0)

-- what C is told of a poll's answer
abbrev pub WritesPolled : Polled FlagAnd → PolledReply → Type 0
WritesPolled Pending out = (out.kind ≡ 0) × HasNoFlag out × HasNoComm out
WritesPolled (Agreed raised failed flag) out = (out.kind ≡ 1) × ((out.flag ≡ flag.bits) × (out.failed ≡ failed) × (out.raised ≡ raised)) × HasNoComm out
WritesPolled (Shrunk comm context size) out = (out.kind ≡ 2) × HasNoFlag out × ((out.comm ≡ comm) × (out.context ≡ context) × (out.size ≡ size))
WritesPolled Done out = (out.kind ≡ 3) × HasNoFlag out × HasNoComm out
