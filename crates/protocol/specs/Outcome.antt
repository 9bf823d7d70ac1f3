-- What a call gives back as this paper's number and count (document 01, "Answers"): a call that is done answers 0
-- with a count, and one that is not answers its failure's number.
use Rattle.std.specs.Prelude.{ℕ, Result, Ok, Err}
use Rattle.protocol.specs.Terms.{number}
use Rattle.protocol.specs.declared.failure.Failure.{Failure}
use Rattle.protocol.specs.declared.failure.Failure.TheVariants.{Partial, NoClient, Shut, Taken, Short}
use Rattle.protocol.specs.declared.failure.Failure.TheVariants.{Empty, Damaged, Range, Refused}

-- the number of a failure
abbrev pub failure_number : Failure → ℕ
failure_number Partial = 1
failure_number NoClient = 2
failure_number Shut = 3
failure_number Taken = 4
failure_number Short = 5
failure_number Empty = 6
failure_number Damaged = 7
failure_number Range = 8
failure_number (Refused r n) = number r

-- the bytes that are consumed beside a failure: those of a refused message
abbrev pub consumed_by : Failure → ℕ
consumed_by (Refused r n) = n
consumed_by Partial = 0
consumed_by NoClient = 0
consumed_by Shut = 0
consumed_by Taken = 0
consumed_by Short = 0
consumed_by Empty = 0
consumed_by Damaged = 0
consumed_by Range = 0

-- the answer of a call
abbrev pub answer_of : Result ℕ Failure → ℕ
answer_of (Ok n) = 0
answer_of (Err f) = failure_number f

-- the count beside the answer
abbrev pub count_of : Result ℕ Failure → ℕ
count_of (Ok n) = n
count_of (Err f) = consumed_by f
