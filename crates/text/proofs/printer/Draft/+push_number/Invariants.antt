-- A number without its last digit is smaller.
use Rattle.text.proofs.printer.Draft.+push_number.Given as goal

abbrev pub decreases-push_number : goal.decreases-push_number
decreases-push_number l = l.x
