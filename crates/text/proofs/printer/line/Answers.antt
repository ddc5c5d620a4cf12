-- The line is put in front of the buffer, where it fits.
use Rattle.std.proofs.Common.{ap, ◌∙◌, List, ℕ}
use Rattle.text.specs.Line.{printed}
use Rattle.text.proofs.Puts.{put_printed}
use Rattle.text.proofs.printer.line.Goals as goal

pub returns-clause-what_is_left : goal.returns-clause-what_is_left
returns-clause-what_is_left c = put_printed c.if-out-line.false c.put_bytes.ensures ∙ ap (λ (l : List ℕ). printed l c.args.out.now) (c.as_bytes-line.ensures ∙ c.drafted-draft.ensures.line)
