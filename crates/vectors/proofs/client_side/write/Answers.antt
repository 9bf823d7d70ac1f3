-- `vectors::client_side::write`: what is lent is a part of its array.
use Rattle.std.proofs.Common.{sym, length-take-le, arith}
use Rattle.vectors.proofs.client_side.write.Goals as goal

pub slice_bounds-room-end : goal.slice_bounds-room-end
slice_bounds-room-end g c = sym (length-take-le _ _ (omega arith))
