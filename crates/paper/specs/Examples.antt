-- The definitions at work: document 01's 'Run only' lines and the decisions taken on it, by computation.
use Rattle.std.specs.Prelude.{Some, ◌≡◌, refl, List, [], ◌∷◌, ℕ}
use Rattle.ranges.specs.declared.Range.TheVariants.{Span}
use Rattle.ranges.specs.Ranges as ranges
use Rattle.states.specs.Answers.{Gives, Refuses}
use Rattle.states.specs.Starts as starts
use Rattle.states.specs.States as states
use Rattle.paper.specs.Code as code
use Rattle.paper.specs.Reader as reader
use Rattle.paper.specs.Rules as rules
use Rattle.paper.specs.Trace as trace
use Rattle.paper.specs.Used as uses
use Rattle.paper.specs.Answers as answers
use Rattle.paper.specs.Answers.{Outcome}
use Rattle.paper.specs.Table.{one, both, counting}

-- c := 1; while c in {1}, c is drawn by 2 and x grows by 1
abbrev pub coin : List ℕ
coin = 2 ∷ 2 ∷ 0 ∷ 0 ∷ 0 ∷ 0 ∷ 0 ∷ 1 ∷ 5 ∷ 0 ∷ 0 ∷ 1 ∷ 0 ∷ 1 ∷ 1 ∷ 2 ∷ 1 ∷ 0 ∷ 0 ∷ 2 ∷ 2 ∷ 1 ∷ 1 ∷ 0 ∷ 0 ∷ 0 ∷ 1 ∷ []

-- a remainder is drawn from 0 to 10; if it is 10, it reads as nought
abbrev pub remainder : List ℕ
remainder = 2 ∷ 1 ∷ 0 ∷ 0 ∷ 12 ∷ 0 ∷ 11 ∷ 4 ∷ 1 ∷ 0 ∷ 1 ∷ 10 ∷ 1 ∷ 2 ∷ 0 ∷ 0 ∷ 0 ∷ 0 ∷ 0 ∷ 0 ∷ 0 ∷ []

pub record Examples : Type 0 where
  -- {0}, {0, ...}
  pub coin_line : answers.ran coin ≡ Gives (record { n = 2; state = states.live (both (ranges.point 0) ranges.naturals) })
  -- {0, ..., 9}
  pub remainder_line : answers.ran remainder ≡ Gives (record { n = 1; state = states.live (one (Span 0 (Some 9))) })
  -- an empty line
  pub no_statement : answers.ran (0 ∷ []) ≡ Gives (record { n = 0; state = states.live states.zeros })
  -- empty
  pub failing : answers.ran (1 ∷ 6 ∷ []) ≡ Gives (record { n = 0; state = states.empty })
  -- a given variable is not counted, so it is not below n
  pub given_not_counted : answers.ran (1 ∷ 7 ∷ 1 ∷ 0 ∷ 0 ∷ []) ≡ Refuses 5 3
  -- all words are checked with n = 64 first
  pub checked_with_64 : answers.ran (2 ∷ 7 ∷ 1 ∷ 0 ∷ 0 ∷ 9 ∷ []) ≡ Refuses 3 5
  -- a list goes on over an empty state, and normalize refuses it
  pub on_over_empty : answers.ran (3 ∷ 1 ∷ 0 ∷ 0 ∷ 2 ∷ 6 ∷ 7 ∷ 1 ∷ 0 ∷ 0 ∷ []) ≡ Refuses 9 8
  -- with `has` 0 the unroll is 0; over its limit it is 4, also there
  pub governed : answers.ran (1 ∷ 5 ∷ 0 ∷ 1 ∷ []) ≡ Refuses 3 3
  pub governed_limit : answers.ran (1 ∷ 5 ∷ 0 ∷ 10001 ∷ []) ≡ Refuses 4 3
  -- the loop of row 12 enters its body in the first pass of the search, of the unrolled turns, and in no other
  pub body_entered : answers.entered counting 1 (one (ranges.point 0)) 0 ≡ 8 ∷ 8 ∷ []
  -- both lists of the remainder's test are entered
  pub both_entered : answers.entered remainder 1 states.zeros 0 ≡ 12 ∷ 20 ∷ []

pub examples : Examples
unfolding answers.analysed answers.looped starts.started starts.starting reader.program reader.statement reader.block reader.branch reader.while reader.normalize reader.given reader.sample reader.assign reader.decrement reader.unroll reader.addend reader.event reader.events reader.set reader.comparison reader.datum reader.draw reader.ratio reader.interval reader.flag reader.unless reader.word reader.many reader.by_kind reader.if_read reader.and_read rules.loop rules.search rules.unrolled rules.growing rules.settle rules.statement rules.event rules.normalized code.event code.statement ranges.retain ranges.remove ranges.first_out ranges.has ranges.remove_end ranges.cut_end states.each states.every answers.ran answers.entered uses.used uses.used_event uses.used_statement trace.statement trace.list trace.loop trace.search trace.unrolled trace.growing trace.settle
examples = record { coin_line = refl; remainder_line = refl; no_statement = refl; failing = refl; given_not_counted = refl; checked_with_64 = refl; on_over_empty = refl; governed = refl; governed_limit = refl; body_entered = refl; both_entered = refl }
