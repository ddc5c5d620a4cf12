-- The line of a state is printed, and the marks are put beside it.
use Rattle.std.proofs.Common.{ap, ◌∙◌, ◌≤◌, length, Some, arith}
use borrow.Author.Tests.{le-ltb}
use Rattle.states.specs.Answers.{Answer}
use Rattle.text.proofs.Puts.{put_front}
use Rattle.woolquern.specs.Job.{Entered, marking}
use Rattle.woolquern.proofs.Ways.{kept_by}
use Rattle.woolquern.proofs.marks.run_marked.Goals as goal

pub returns-in_ok-printed-in-Ok-clause-what_is_left : goal.returns-in_ok-printed-in-Ok-clause-what_is_left
returns-in_ok-printed-in-Ok-clause-what_is_left c =
    let e = c.in-Ok.field-0 in
    let marks = c.args.marks.now in
    let room : e.count ≤ length marks = omega (arith, c.in-Ok.ensures.bound) in
    let kept = kept_by e.found e.n e.count marks c.put_bytes.new.buffer c.args.out.now (Some c.in_ok-printed-in-Ok.printed) room c.in_ok-printed-in-Ok.ensures.what_is_left (put_front _ (grind arith) c.put_bytes.ensures) in
    kept ∙ ap (λ (a : Answer Entered). marking a marks c.args.out.now) (rw (le-ltb (length marks) e.count room) c.in-Ok.ensures.value)
