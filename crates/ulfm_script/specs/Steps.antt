-- Reading in steps; the first fault is the fault of the whole.
use Rattle.std.specs.Prelude.{Option, Some, None, Result, Ok, Err}
use Rattle.ulfm_script.specs.declared.line_kind.LineKind.{LineKind}

infixl 10 ◌>>=◌
abbrev pub ◌>>=◌ : {A B : Type 0} → Result A LineKind → (A → Result B LineKind) → Result B LineKind
(Ok x) >>= f = f x
(Err kind) >>= f = Err kind

-- a value, or this fault where there is none
abbrev pub or_fault : {A : Type 0} → LineKind → Option A → Result A LineKind
or_fault kind None = Err kind
or_fault kind (Some x) = Ok x

-- the same with this fault in place of any other
abbrev pub with_fault : {A : Type 0} → LineKind → Result A LineKind → Result A LineKind
with_fault kind (Ok x) = Ok x
with_fault kind (Err other) = Err kind
