-- The table of document 01, "Proved table": its 13 rows as one theorem, by computation.
use Rattle.std.specs.Prelude.{Some, None, ◌≡◌, refl, false, List, [], ◌∷◌, ℕ, set}
use Rattle.ranges.specs.declared.Range.{Range}
use Rattle.ranges.specs.declared.Range.TheVariants.{Empty, Span}
use Rattle.ranges.specs.Ranges as ranges
use Rattle.ranges.specs.Ranges.{top}
use Rattle.states.specs.declared.Cell.{Cell}
use Rattle.states.specs.States as states
use Rattle.paper.specs.Code as code
use Rattle.paper.specs.Reader as reader
use Rattle.paper.specs.Rules as rules
use Rattle.states.specs.Answers.{Gives}
use Rattle.paper.specs.Rules.{Setting, Looped}
use Rattle.states.specs.Starts as starts
use Rattle.paper.specs.Answers as answers

-- the cells of one variable, and of two, that have these ranges
abbrev pub one : Range → List Cell
one r = set states.zeros 0 (states.cell r)

abbrev pub both : Range → Range → List Cell
both r q = set (one r) 1 (states.cell q)

-- draw 12 with 5, 5 onto x
abbrev pub drawn : ℕ → List ℕ
drawn add = 1 ∷ 1 ∷ 0 ∷ add ∷ 12 ∷ 5 ∷ 5 ∷ []

-- while x in {0} add 1
abbrev pub counting : List ℕ
counting = 1 ∷ 5 ∷ 0 ∷ 0 ∷ 1 ∷ 0 ∷ 1 ∷ 0 ∷ 1 ∷ 2 ∷ 0 ∷ 1 ∷ 0 ∷ 0 ∷ 0 ∷ 1 ∷ []

-- while c in {1}, c is drawn by 2 and x grows by 1
abbrev pub flipping : List ℕ
flipping = 1 ∷ 5 ∷ 0 ∷ 0 ∷ 1 ∷ 0 ∷ 1 ∷ 1 ∷ 2 ∷ 1 ∷ 0 ∷ 0 ∷ 2 ∷ 2 ∷ 1 ∷ 1 ∷ 0 ∷ 0 ∷ 0 ∷ 1 ∷ []

pub record Table : Type 0 where
  pub row1 : ranges.sum Empty (Span 2 (Some 5)) ≡ Span 2 (Some 5)
  pub row2 : ranges.sum (ranges.point top) (ranges.point 1) ≡ Span top None
  pub row3 : ranges.remove (ranges.point 0) (0 ∷ []) ≡ Some Empty
  pub row4 : ranges.retain (Span 0 (Some 10)) (10 ∷ 3 ∷ 20 ∷ []) ≡ Span 3 (Some 10)
  pub row5 : ranges.remove (Span 0 (Some 10)) (10 ∷ 0 ∷ 9 ∷ 1 ∷ []) ≡ Some (Span 2 (Some 8))
  pub row5' : ranges.remove (Span 0 (Some 10)) (5 ∷ []) ≡ Some (Span 0 (Some 10))
  pub row6 : ranges.remove (ranges.point 4294967294) (4294967294 ∷ 4294967295 ∷ []) ≡ None
  pub row7 : ranges.times (ranges.point 2147483647) 2 ≡ Some (ranges.point 4294967294)
  pub row7' : ranges.times (ranges.point 2147483648) 2 ≡ None
  pub row8 : ranges.times ranges.naturals 0 ≡ Some ranges.naturals
  pub row9 : ranges.less (Span 3 (Some 7)) 5 ≡ Span 0 (Some 2)
  pub row10 : ranges.within ranges.naturals (Span 0 (Some top)) ≡ false
  pub row11 : answers.analysed (drawn 0) 1 (one (ranges.point 4)) 0 ≡ Gives (states.live (one (ranges.point 0)))
  pub row11' : answers.analysed (drawn 1) 1 (one (ranges.point 4)) 0 ≡ Gives (states.live (one (ranges.point 4)))
  pub row12 : answers.looped counting 1 (one (ranges.point 0)) 0 ≡ Gives (record { exits = states.live (one (ranges.point 1)); turned = states.empty; settled = states.empty; searched = 3; unrolls = 2; joined = 1; widened = 0 })
  pub row13 : answers.looped flipping 2 (both (ranges.point 1) (ranges.point 0)) 0 ≡ Gives (record { exits = states.live (both (ranges.point 0) ranges.naturals); turned = states.live (both (ranges.point 1) (ranges.point 0)); settled = states.live (both (Span 0 (Some 1)) ranges.naturals); searched = 100; unrolls = 0; joined = 100; widened = 2 })

pub table : Table
unfolding answers.analysed answers.looped starts.started starts.starting reader.program reader.statement reader.block reader.branch reader.while reader.normalize reader.given reader.sample reader.assign reader.decrement reader.unroll reader.addend reader.event reader.events reader.set reader.comparison reader.datum reader.draw reader.ratio reader.interval reader.flag reader.unless reader.word reader.many reader.by_kind reader.if_read reader.and_read rules.loop rules.search rules.unrolled rules.growing rules.settle rules.statement rules.event code.event code.statement ranges.retain ranges.remove ranges.first_out ranges.has ranges.remove_end ranges.cut_end states.each states.every
table = record { row1 = refl; row2 = refl; row3 = refl; row4 = refl; row5 = refl; row5' = refl; row6 = refl; row7 = refl; row7' = refl; row8 = refl; row9 = refl; row10 = refl; row11 = refl; row11' = refl; row12 = refl; row13 = refl }
