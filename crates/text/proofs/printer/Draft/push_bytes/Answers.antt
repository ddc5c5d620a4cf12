-- The bytes stand behind what was in the draft.
use Rattle.std.proofs.Common.{ap, ◌∙◌, List, ◌++◌, ℕ, arith}
use Rattle.std.proofs.Math.Seq.{length-take-le}
use Rattle.text.proofs.Puts.{put_behind}
use Rattle.text.proofs.printer.Draft.push_bytes.Goals as goal

pub returns : goal.returns
returns c = put_behind (grind (arith, length-take-le)) c.put_bytes-self-inside.ensures ∙ ap (λ (l : List ℕ). l ++ c.args.bytes.now) c.self.view_is
