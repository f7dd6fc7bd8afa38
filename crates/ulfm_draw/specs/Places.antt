-- Where signs stand in a picture.
use Rattle.std.specs.Prelude.{ℕ, ◌<◌, ◌≤◌, ◌^◌}

-- A place is behind the left and the upper margin, and so far from the far ends that a sign has room there.
pub record HasRoom (x y : ℕ) : Type 0 where
  pub left : 64 ≤ x
  pub right : x < 2 ^ 30
  pub low : 64 ≤ y
  pub high : y < 2 ^ 30
