-- A longer number is the digits of all but its last one, and then that one.
use Rattle.std.proofs.Common.{arith, append_assoc, length-append}
use Rattle.text.proofs.Digits.{digits_one, digits_more, digits_longer}
use Rattle.text.proofs.printer.Draft.+push_number.Goals as goal
use Rattle.text.proofs.printer.Draft.+push_number.Goals.{then-x-ge10, else-x-ge10}

pub push_bytes-requires : goal.push_bytes-requires
push_bytes-requires t c = elim c.if-x-ge10.branch [ then-x-ge10 w ↦ grind (arith, length-append, digits_longer) | else-x-ge10 w ↦ grind (arith, digits_one) ]

pub returns : goal.returns
returns t c = elim c.if-x-ge10.branch [ then-x-ge10 w ↦ grind (arith, append_assoc, digits_more) | else-x-ge10 w ↦ grind (arith, digits_one) ]
