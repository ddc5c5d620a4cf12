-- Refused at admission, by the check, by the walk, or walked: over the program that the words are.
use Rattle.std.proofs.Common.{◌≡◌, ◌∙◌, sym, ap}
use Rattle.paper.specs.Reader as reader
use Rattle.paper.specs.Rules.{Setting}
use Rattle.analysis.proofs.Entries.{analysed_unadmitted, analysed_bad, walked_list, walked_stopped, walked_refused, unsound_is, sound_is, program_words}
use Rattle.analysis.proofs.entry.walked.Goals as goal

pub returns-in_err-setting : goal.returns-in_err-setting
returns-in_err-setting c =
    let s = c.args in
    walked_refused s.words.now s.n s.unroll s.start.now.cells c.from_residual.result (analysed_unadmitted s.words.now s.n s.unroll s.start.now.cells (sym c.in_err-setting.ensures.out)) c.from_residual.ensures.1

pub returns-in_err-check : goal.returns-in_err-check
returns-in_err-check c =
    let s = c.args in
    walked_refused s.words.now s.n s.unroll s.start.now.cells c.from_residual-in_err-check.result
    (analysed_bad s.words.now s.n s.unroll s.start.now.cells (sym c.in_ok-setting.ensures.out) (unsound_is (reader.program s.words.now s.n) c.in_err-check.ensures)) c.from_residual-in_err-check.ensures.1

pub list-requires-clause-list_is : goal.list-requires-clause-list_is
list-requires-clause-list_is c =
    let same : c.in_ok-setting.setting.n ≡ c.args.n = ap (λ (g : Setting). g.n) c.in_ok-setting.ensures.setting in
    rw (same, c.whole.ensures.words_all) (program_words (sound_is c.args.words.now c.args.n c.in_ok-check.ensures))

pub returns-in_err-list : goal.returns-in_err-list
returns-in_err-list c =
    let s = c.args in
    let p = sound_is s.words.now s.n c.in_ok-check.ensures in
    walked_refused s.words.now s.n s.unroll s.start.now.cells c.from_residual-in_err-list.result
    (walked_stopped s.words.now s.n s.unroll s.start.now.cells (sym c.in_ok-setting.ensures.out) p.read c.in_ok-setting.ensures.setting c.whole.ensures.base_zero (c.in_err-list.ensures p.tree (c.whole.ensures.words_all ∙ p.is)))
    c.from_residual-in_err-list.ensures.1

pub returns : goal.returns
returns c =
    let s = c.args in
    let p = sound_is s.words.now s.n c.in_ok-check.ensures in
    walked_list s.words.now s.n s.unroll s.start.now.cells (sym c.in_ok-setting.ensures.out) p.read c.in_ok-setting.ensures.setting c.whole.ensures.base_zero (c.in_ok-list.ensures p.tree (c.whole.ensures.words_all ∙ p.is))
