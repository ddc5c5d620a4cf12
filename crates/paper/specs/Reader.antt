-- Which word lists are programs, read left to right: document 01, "Words" and refusals 3 to 6 of "Answers by number".
use Rattle.std.specs.Prelude.{Bool, true, false, ◌&&◌, List, [], ◌∷◌, ℕ, zero, suc, ◌+◌, ◌-◌, ◌/◌, ◌%◌, leb, ltb, eqb, length, get_or}
use Rattle.ranges.specs.Ranges as ranges
use Rattle.paper.specs.Tree.{Draw, Dirac, Bernoulli, BernoulliVarProb, BinomialVarTrials, Binomial, Categorical, NegBinomialVarSuccesses, NegBinomial, Geometric, Poisson, PoissonVarRate, Uniform}
use Rattle.paper.specs.Tree.{Event, InSet, VarComparison, DataFromDist, Complement, Intersection, Events, none, ◌also◌}
use Rattle.paper.specs.Tree.{Addend, Nought, Times, Unroll, Default, Turns}
use Rattle.paper.specs.Tree.{Statement, Sample, Assign, Decrement, IfThenElse, While, Fail, Normalize, Statements, done, ◌then◌}

-- what was read and the index of the next word, or a refusal by number and place
pub data Reading (A : Type 0) : Type 0 where
  Read : A → (next : ℕ) → Reading A
  Bad : (number place : ℕ) → Reading A

-- go on after what was read; the first bad word decides
unfoldable pub and_read : {A B : Type 0} → Reading A → (A → ℕ → Reading B) → Reading B
and_read (Read a i) f = f a i
and_read (Bad k at) f = Bad k at

-- one of two readings, by a test
unfoldable pub if_read : {A : Type 0} → Bool → Reading A → Reading A → Reading A
if_read true m other = m
if_read false m other = other

-- the readings of kinds 1, 2, .., each from the word after the kind word; and that of any other kind
unfoldable pub by_kind : {A : Type 0} → ℕ → List (ℕ → Reading A) → (ℕ → Reading A) → ℕ → Reading A
by_kind kind [] other i = other i
by_kind zero (m ∷ ms) other i = other i
by_kind (suc zero) (m ∷ ms) other i = m i
by_kind (suc (suc k)) (m ∷ ms) other i = by_kind (suc k) ms other i

-- as many as a count says, one after the other
unfoldable pub many : {A T : Type 0} → T → (A → T → T) → (ℕ → Reading A) → ℕ → ℕ → Reading T
many nil cons one zero at = Read nil at
many nil cons one (suc k) at =
    and_read (one at) λ a i.
    and_read (many nil cons one k i) λ t j.
    Read (cons a t) j

-- whether p / q is a u32 integer, denominator 0 excluded
abbrev pub whole : ℕ → ℕ → Bool
whole p q = ltb 0 q && (eqb (p % q) 0 && leb (p / q) ranges.top)

module _ (ws : List ℕ) where
  -- ---- single words

  -- the word at an index; 3 at the list's length where the words are short
  unfoldable pub word : ℕ → Reading ℕ
  word at = if_read (ltb at (length ws)) (Read (get_or ws at 0) (at + 1)) (Bad 3 (length ws))

  -- a word that passes a test, or the refusal of that number there
  unfoldable pub unless : (ℕ → Bool) → ℕ → ℕ → Reading ℕ
  unless ok k at = and_read (word at) λ x i. if_read (ok x) (Read x i) (Bad k at)

  -- a word within a limit
  abbrev pub most : ℕ → ℕ → ℕ → Reading ℕ
  most limit = unless (λ x. leb x limit)

  -- values fit u32; one that does not is 3
  abbrev pub small : ℕ → Reading ℕ
  small = most ranges.top 3

  -- with `has` 0 the words it governs are 0
  abbrev pub nought : ℕ → Reading ℕ
  nought = most 0 3

  -- `add` and `has` are 0 or 1
  unfoldable pub flag : ℕ → Reading Bool
  flag at = and_read (most 1 3 at) λ x i. Read (eqb x 1) i

  -- draw 1, numer denom: 6 at the denominator if they are no u32 integer
  unfoldable pub ratio : ℕ → Reading Draw
  ratio at =
      and_read (word at) λ p i.
      and_read (unless (whole p) 6 i) λ q j.
      Read (Dirac p q) j

  -- draw 12, start end
  unfoldable pub interval : ℕ → Reading Draw
  interval at = and_read (small at) λ a i. and_read (small i) λ b j. Read (Uniform a b) j

  -- has unroll: 10,000 at most, over it 4, with `has` 0 too; below it, with `has` 0, it is 0 or else 3
  unfoldable pub unroll : ℕ → Reading Unroll
  unroll at =
      and_read (flag at) λ has i.
      and_read (most 10000 4 i) λ u j.
      if_read has (Read (Turns u) j) (if_read (eqb u 0) (Read Default j) (Bad 3 i))

  -- a count, then that many events
  unfoldable pub events : (ℕ → Reading Event) → ℕ → Reading Events
  events one at = and_read (word at) λ k i. many none ◌also◌ one k i

  -- a count, then that many statements
  unfoldable pub block : (ℕ → Reading Statement) → ℕ → Reading Statements
  block one at = and_read (word at) λ k i. many done ◌then◌ one k i

module _ (ws : List ℕ) (n : ℕ) where
  -- a variable word of any size not below n is 5
  abbrev pub variable : ℕ → Reading ℕ
  variable = unless ws (λ x. ltb x n) 5

  -- what holds one variable, or one value
  abbrev pub of_variable : {A : Type 0} → (ℕ → A) → ℕ → Reading A
  of_variable make at = and_read (variable at) λ v i. Read (make v) i

  abbrev pub of_small : {A : Type 0} → (ℕ → A) → ℕ → Reading A
  of_small make at = and_read (small ws at) λ x i. Read (make x) i

  -- ---- draws, by the kind word, in the order of genfer's `Distribution`; 13, 14, 15, the continuous ones, are 6 there

  unfoldable pub draw : ℕ → Reading Draw
  draw at =
      and_read (word ws at) λ kind i.
      by_kind kind (
      ratio ws
      ∷ (λ j. Read Bernoulli j)
      ∷ of_variable BernoulliVarProb
      ∷ of_variable BinomialVarTrials
      ∷ of_small Binomial
      ∷ of_small Categorical
      ∷ of_variable NegBinomialVarSuccesses
      ∷ of_small NegBinomial
      ∷ (λ j. Read Geometric j)
      ∷ (λ j. Read Poisson j)
      ∷ of_variable PoissonVarRate
      ∷ interval ws
      ∷ (λ j. Bad 6 at)
      ∷ (λ j. Bad 6 at)
      ∷ (λ j. Bad 6 at)
      ∷ []) (λ j. Bad 3 at) i

  -- ---- events

  -- event 1, var count values: 256 values at most, over it 4 at the count
  unfoldable pub set : ℕ → Reading Event
  set at =
      and_read (variable at) λ v i.
      and_read (most ws 256 4 i) λ k j.
      and_read (many [] ◌∷◌ (small ws) k j) λ xs h.
      Read (InSet v xs) h

  -- event 2, var var
  unfoldable pub comparison : ℕ → Reading Event
  comparison at = and_read (variable at) λ v i. and_read (variable i) λ w j. Read (VarComparison v w) j

  -- event 3, value draw
  unfoldable pub datum : ℕ → Reading Event
  datum at = and_read (small ws at) λ x i. and_read (draw i) λ d j. Read (DataFromDist x d) j

  -- the kinds of events; 4, event, and 5, count events, read what they hold by `one`
  abbrev pub event_kinds : (ℕ → Reading Event) → List (ℕ → Reading Event)
  event_kinds one =
      set
      ∷ comparison
      ∷ datum
      ∷ (λ j. and_read (one j) λ e h. Read (Complement e) h)
      ∷ (λ j. and_read (events ws one j) λ es h. Read (Intersection es) h)
      ∷ []

  -- an event that may still nest `deep` deep, one less for each nesting; deeper is 4 at the kind word, before 3
  unfoldable pub event : ℕ → ℕ → Reading Event
  event zero at = and_read (word ws at) λ kind i. Bad 4 at
  event (suc deep) at = and_read (word ws at) λ kind i. by_kind kind (event_kinds (event deep)) (λ j. Bad 3 at) i

  -- ---- statements

  -- has factor w: with `has` 0 the words it governs are 0, and w is then no variable word
  unfoldable pub addend : ℕ → Reading Addend
  addend at =
      and_read (flag ws at) λ has i.
      if_read has
      (and_read (small ws i) λ f j. and_read (variable j) λ w h. Read (Times f w) h)
      (and_read (nought ws i) λ f j. and_read (nought ws j) λ w h. Read Nought h)

  -- statement 1, var add draw
  unfoldable pub sample : ℕ → Reading Statement
  sample at = and_read (variable at) λ v i. and_read (flag ws i) λ a j. and_read (draw j) λ d h. Read (Sample v a d) h

  -- statement 2, var add has factor w offset
  unfoldable pub assign : ℕ → Reading Statement
  assign at =
      and_read (variable at) λ v i.
      and_read (flag ws i) λ a j.
      and_read (addend j) λ x h.
      and_read (small ws h) λ k m.
      Read (Assign v a x k) m

  -- statement 3, var offset
  unfoldable pub decrement : ℕ → Reading Statement
  decrement at = and_read (variable at) λ v i. and_read (small ws i) λ k j. Read (Decrement v k) j

  -- count given-variables: 8 at most, over it 4 at the count
  unfoldable pub given : ℕ → Reading (List ℕ)
  given at = and_read (most ws 8 4 at) λ k i. many [] ◌∷◌ variable k i

  -- statement 4, event count then-list count else-list: its event is as deep as it is
  unfoldable pub branch : (ℕ → Reading Statement) → ℕ → ℕ → Reading Statement
  branch one deep at =
      and_read (event deep at) λ e i.
      and_read (block ws one i) λ t j.
      and_read (block ws one j) λ f h.
      Read (IfThenElse e t f) h

  -- statement 5, has unroll event count body
  unfoldable pub while : (ℕ → Reading Statement) → ℕ → ℕ → Reading Statement
  while one deep at =
      and_read (unroll ws at) λ u i.
      and_read (event deep i) λ e j.
      and_read (block ws one j) λ b h.
      Read (While u e b) h

  -- statement 7, count given-variables count body
  unfoldable pub normalize : (ℕ → Reading Statement) → ℕ → Reading Statement
  normalize one at = and_read (given at) λ vs i. and_read (block ws one i) λ b j. Read (Normalize vs b) j

  -- the kinds of statements; the lists of 4 and 7 are read by `one`, that of 5 by `body`; a loop too deep in loops is 4 at the kind word
  abbrev pub statement_kinds : ℕ → ℕ → ℕ → (ℕ → Reading Statement) → (ℕ → Reading Statement) → List (ℕ → Reading Statement)
  statement_kinds deep loops at one body =
      sample
      ∷ assign
      ∷ decrement
      ∷ branch one deep
      ∷ (λ j. if_read (eqb loops 0) (Bad 4 at) (while body deep j))
      ∷ (λ j. Read Fail j)
      ∷ normalize one
      ∷ []

  -- a statement that may still nest `deep` deep, and `loops` loops deep; deeper is 4 at the kind word, before 3
  unfoldable pub statement : ℕ → ℕ → ℕ → Reading Statement
  statement zero loops at = and_read (word ws at) λ kind i. Bad 4 at
  statement (suc deep) loops at =
      and_read (word ws at) λ kind i.
      by_kind kind (statement_kinds (suc deep) loops at (statement deep loops) (statement deep (loops - 1))) (λ j. Bad 3 at) i

  -- a program is a count, then that many statements: depth 16, loops 3 deep; a word after them is 3
  unfoldable pub program : Reading Statements
  program =
      and_read (block ws (statement 16 3) 0) λ p j.
      if_read (eqb j (length ws)) (Read p j) (Bad 3 j)
