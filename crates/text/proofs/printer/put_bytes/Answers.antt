-- The part that is written over is as long as the bytes.
use Rattle.std.proofs.Common.{refl, arith}
use Rattle.text.proofs.Puts.{put_part}
use Rattle.text.proofs.printer.put_bytes.Goals as goal

pub returns : goal.returns
returns c = record { place = refl; draft = grind (arith, put_part) }
