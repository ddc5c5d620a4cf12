-- Refused at admission, at the first two words, by the check, or the walk over the one loop.
use Rattle.std.proofs.Common.{◌≡◌, ◌∙◌, sym, ap, ℕ, length, length-drop, drop, arith}
use Rattle.paper.specs.Reader as reader
use Rattle.paper.specs.Rules.{Setting}
use Rattle.analysis.proofs.Entries.{looped_unadmitted, looped_unbegun, looped_bad, looped_read, looped_refused, as_looped, begun_good, one_loop, one_answer, unsound_is, sound_is}
use Rattle.analysis.proofs.entry.walked_loop.Goals as goal

pub returns-in_err-setting : goal.returns-in_err-setting
returns-in_err-setting c =
    let s = c.args in
    looped_refused c.from_residual.result (looped_unadmitted s.words.now s.n s.unroll s.start.now.cells (sym c.in_err-setting.ensures.out)) c.from_residual.ensures.1

pub returns-in_err-begins : goal.returns-in_err-begins
returns-in_err-begins c =
    let s = c.args in
    looped_refused c.from_residual-in_err-begins.result (looped_unbegun s.words.now s.n s.unroll s.start.now.cells (sym c.in_ok-setting.ensures.out) c.in_err-begins.ensures) c.from_residual-in_err-begins.ensures.1

pub returns-in_err-check : goal.returns-in_err-check
returns-in_err-check c =
    let s = c.args in
    looped_refused c.from_residual-in_err-check.result
    (looped_bad s.words.now s.n s.unroll s.start.now.cells (sym c.in_ok-setting.ensures.out) c.in_ok-begins.ensures (unsound_is (reader.program s.words.now s.n) c.in_err-check.ensures)) c.from_residual-in_err-check.ensures.1

pub rest-requires : goal.rest-requires
rest-requires c = omega (arith, (begun_good c.args.words.now c.in_ok-begins.ensures).long, ap length c.whole.ensures.words_all)

pub looped-requires-clause-loop_is : goal.looped-requires-clause-loop_is
looped-requires-clause-loop_is c =
    let same : c.in_ok-setting.setting.n ≡ c.args.n = ap (λ (g : Setting). g.n) c.in_ok-setting.ensures.setting in
    rw (same, c.rest.ensures.words_left, c.whole.ensures.words_all) (one_loop (sound_is c.args.words.now c.args.n c.in_ok-check.ensures) (begun_good c.args.words.now c.in_ok-begins.ensures)).loop

pub looped-requires-clause-within_marks : goal.looped-requires-clause-within_marks
looped-requires-clause-within_marks c =
    omega (arith, (begun_good c.args.words.now c.in_ok-begins.ensures).long, c.requires c.in_ok-setting.ensures.few, ap length c.rest.ensures.words_left, ap length c.whole.ensures.words_all, length-drop {A = ℕ}, c.rest.ensures.base_moved, c.whole.ensures.base_zero)

pub returns : goal.returns
returns c =
    let s = c.args in
    let p = sound_is s.words.now s.n c.in_ok-check.ensures in
    let o = one_loop p (begun_good s.words.now c.in_ok-begins.ensures) in
    let words = c.rest.ensures.words_left ∙ ap (drop 1) c.whole.ensures.words_all ∙ o.is in
    as_looped c.looped.result
    ((c.looped.ensures o.unroll o.event o.body words).out
    ∙ sym (looped_read s.words.now s.n s.unroll s.start.now.cells (sym c.in_ok-setting.ensures.out) c.in_ok-begins.ensures p.read ∙ one_answer s.unroll c.in_ok-setting.state o c.in_ok-setting.ensures.setting (omega (arith, c.rest.ensures.base_moved, c.whole.ensures.base_zero))))
