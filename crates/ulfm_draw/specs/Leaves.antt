-- The elements that a picture's groups are made of.
use Rattle.std.specs.Prelude.{ℕ, ◌++◌, List, codes}
use Rattle.ulfm_draw.specs.declared.leaf.Leaf.{Leaf}
use Rattle.ulfm_draw.specs.declared.leaf.Leaf.TheVariants as leaf

-- the text of a path of this form, with `@` for its class
abbrev pub path_text : List ℕ → List ℕ
path_text form = codes "<path class=\"@\" d=\"" ++ form ++ codes "\"/>\n"

-- the text of an element, with `@` for its class, `#` for its numbers and `$` for its words
abbrev pub leaf_text : Leaf → List ℕ
leaf_text leaf.Box = codes "<rect class=\"@\" x=\"#\" y=\"#\" width=\"#\" height=\"#\" rx=\"#\"/>\n"
leaf_text leaf.Across = path_text (codes "M# #H#")
leaf_text leaf.Down = path_text (codes "M# #V#")
leaf_text leaf.Disc = codes "<circle class=\"@\" cx=\"#\" cy=\"#\" r=\"#\"/>\n"
leaf_text leaf.Diamond = path_text (codes "M# #l# #l-# #l-# -#z")
leaf_text leaf.Cross = path_text (codes "M# #l6 6m0 -6l-6 6")
leaf_text leaf.Triangle = path_text (codes "M# #l# #h-#z")
leaf_text leaf.Hexagon = path_text (codes "M# #h6l4 7l-4 7h-6l-4 -7z")
leaf_text leaf.Point = path_text (codes "M# #l5 5l-5 5l-5 -5z")
leaf_text leaf.Words = codes "<text class=\"@\" x=\"#\" y=\"#\">$</text>\n"
