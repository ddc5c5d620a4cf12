-- The words of a part fall; at one part a list is below a block, a block below a pass, a pass below the stages of its loop, and these below the statement.
-- At each turn what is left answers for the whole: the statements after `at`, the passes still to come, the values still to set.
use Rattle.std.proofs.Common.{◌≡◌, true, ℕ, ◌+◌, ◌-◌, ◌*◌, ◌<◌, length, get_or, drop}
use Rattle.states.specs.States as states
use Rattle.paper.specs.Code as code
use Rattle.paper.specs.Tree.{Event, Statements}
use Rattle.analysis.specs.Loops.{grow}
use Rattle.analysis.specs.Noted as noted
use Rattle.analysis.specs.Noted.{setting_of}
use Rattle.analysis.specs.Parts.{LoopAt}
use Rattle.analysis.proofs.Says.{Leads}
use Rattle.analysis.proofs.Walks.{GoingToEnd}
use Rattle.analysis.proofs.walk.+walk.Given as goal

abbrev pub decreases-list : goal.decreases-list
decreases-list l = 8 * length l.part.words.now

abbrev pub decreases-block : goal.decreases-block
decreases-block l = 8 * length l.part.words.now + 1

abbrev pub decreases-normalize : goal.decreases-normalize
decreases-normalize l = 8 * (length l.given.words.now + length l.body.words.now) + 1

abbrev pub decreases-pass : goal.decreases-pass
decreases-pass l = 8 * length l.parts.body.words.now + 2

abbrev pub decreases-search : goal.decreases-search
decreases-search l = 8 * length l.parts.body.words.now + 3

abbrev pub decreases-unrolled : goal.decreases-unrolled
decreases-unrolled l = 8 * length l.parts.body.words.now + 3

abbrev pub decreases-growing : goal.decreases-growing
decreases-growing l = 8 * length l.parts.body.words.now + 3

abbrev pub decreases-settle : goal.decreases-settle
decreases-settle l = 8 * length l.parts.body.words.now + 4

abbrev pub decreases-while_loop : goal.decreases-while_loop
decreases-while_loop l = 8 * length l.part.words.now + 6

abbrev pub decreases-looped : goal.decreases-looped
decreases-looped l = 8 * length l.part.words.now + 5

abbrev pub decreases-branch : goal.decreases-branch
decreases-branch l = 8 * length l.part.words.now + 5

abbrev pub decreases-statement : goal.decreases-statement
decreases-statement l = 8 * length l.part.words.now + 7

abbrev pub invariant-list-loop : goal.invariant-list-loop
invariant-list-loop l = record {
  after : 0 < l.at;
  going : (t : Statements) → l.part.words.now ≡ code.program t → GoingToEnd (setting_of l.setting) l.part.base l.part.words.now l.fn.state l.fn.marks t l.counter l.end l.at l.state l.marks;
}

abbrev pub invariant-search-loop-i : goal.invariant-search-loop-i
invariant-search-loop-i l =
    (at : ℕ) (e : Event) (b : Statements) → LoopAt at e b l.parts →
    Leads (noted.sought (setting_of l.setting) at e b 100 0 (record { next = l.fn.state; exit = states.empty })) l.fn.marks
    (noted.sought (setting_of l.setting) at e b (100 - l.i) l.i (record { next = l.state; exit = l.exits })) l.marks

abbrev pub invariant-unrolled-loop : goal.invariant-unrolled-loop
invariant-unrolled-loop l =
    (at : ℕ) (e : Event) (b : Statements) → LoopAt at e b l.parts →
    Leads (noted.unrolled (setting_of l.setting) at e b l.parts.turns (record { next = l.fn.state; exit = states.empty })) l.fn.marks
    (noted.unrolled (setting_of l.setting) at e b (l.parts.turns - l.counter) (record { next = l.state; exit = l.exits })) l.marks

abbrev pub invariant-growing-loop-i : goal.invariant-growing-loop-i
invariant-growing-loop-i l =
    (at : ℕ) (e : Event) (b : Statements) → LoopAt at e b l.parts →
    Leads (noted.growing (setting_of l.setting) at e b (grow l.growth l.setting.n) l.most 0 l.fn.state) l.fn.marks
    (noted.growing (setting_of l.setting) at e b (grow l.growth l.setting.n) (l.most - l.i) l.i l.state) l.marks

abbrev pub invariant-normalize-loop-x : goal.invariant-normalize-loop-x
invariant-normalize-loop-x l = record {
  live : states.is_live l.state ≡ true;
  leads :
      (b : Statements) → l.body.words.now ≡ code.program b →
      Leads (noted.normalized (setting_of l.setting) l.fn.given.base l.fn.given.words.now l.body.base b l.state) l.fn.marks
      (noted.enumerated (setting_of l.setting) l.fn.given.base (get_or l.fn.given.words.now 0 0) (drop 1 l.fn.given.words.now) l.body.base b l.state (l.last + 1 - l.x) l.x l.joined) l.marks;
}
