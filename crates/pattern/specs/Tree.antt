-- What a pattern is made of (document 01, "Patterns"): a sequence of elements. A group is an element, and its branches
-- are sequences. The tree is made of the parts from right to left. It is defined for every pattern: in an invalid one a
-- group that is left open ends at the pattern's end, and the pattern ends at a `|` or `)` outside every group.
use Rattle.std.specs.Prelude.{List, [], ◌∷◌}
use Rattle.octets.specs.Octets.{Bytes}
use Rattle.pattern.specs.declared.element.Simple.{Simple}
use Rattle.pattern.specs.Tokens.{tokens}
use Rattle.pattern.specs.Parts.{Part, one, opening, bar, closing, parts}

infixr 20 ◌▸◌
infixr 20 ◌or◌
mutual
  pub data Elem : Type 0 where
    simple : Simple → Elem
    group : Branches → Elem

  pub data Seq : Type 0 where
    done : Seq
    ◌▸◌ : Elem → Seq → Seq

  pub data Branches : Type 0 where
    last : Seq → Branches
    ◌or◌ : Seq → Branches → Branches

-- What stands from some place of a pattern on. Inside a group that is the branches from there on, the first of them
-- being what is left of the branch that the place is in, and then what follows the group.
pub data Level : Type 0 where
  outside : Seq → Level
  inside : Branches → Level → Level

-- The branches from the place on; outside every group the rest of the pattern counts as one.
unfoldable pub branches : Level → Branches
branches (outside s) = last s
branches (inside b up) = b

-- What follows the group that the place is in; outside every group nothing does.
unfoldable pub above : Level → Level
above (outside s) = outside done
above (inside b up) = up

-- A change of the first branch.
unfoldable pub on_first : (Seq → Seq) → Branches → Branches
on_first f (last s) = last (f s)
on_first f (s or b) = f s or b

-- A change of the sequence that the place is in.
unfoldable pub on_seq : (Seq → Seq) → Level → Level
on_seq f (outside s) = outside (f s)
on_seq f (inside b up) = inside (on_first f b) up

-- One part more, on the left: an element goes before the sequence, `(` makes the branches from there on a group, `|`
-- puts an empty branch before them, and `)` starts the last branch of a group from its end.
unfoldable pub grow : Part → Level → Level
grow (one x) l = on_seq (◌▸◌ (simple x)) l
grow opening l = on_seq (◌▸◌ (group (branches l))) (above l)
grow bar l = inside (done or branches l) (above l)
grow closing l = inside (last done) l

-- What the parts make, from the last to the first.
unfoldable pub tree : List Part → Level
tree [] = outside done
tree (x ∷ xs) = grow x (tree xs)

-- The first branch.
unfoldable pub first : Branches → Seq
first (last s) = s
first (s or b) = s

-- The sequence that the place is in.
unfoldable pub sequence : Level → Seq
sequence (outside s) = s
sequence (inside b up) = first b

-- A whole pattern as a sequence.
unfoldable pub tree_of : Bytes → Seq
tree_of p = sequence (tree (parts (tokens p)))
