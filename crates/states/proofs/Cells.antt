-- Lists of cells: what `each` and `every` of `States` do, cell by cell.
use mathlib.Core.Path.{◌≡◌, refl, sym, ap, ◌∙◌, subst}
use mathlib.Core.Bool.{Bool, true, false, ◌&&◌}
use mathlib.Core.List.{List, [], ◌∷◌}
use Prim.Native.Nat.{ℕ, zero, suc, min, ◌+◌, ◌≤◌, ◌<◌}
use native.Mathlib.Numerals.{add-one}
use native.Mathlib.Omega.{arith}
use lib.Dec.{eqb}
use lib.ListN.{length, get_or, set}
use lib.Seq.{get_or-set_same, get_or-set_other, ext_get_or}
use borrow.Author.Tests.{eqb-true, eqb-false}
use Rattle.ranges.specs.declared.Range.{Range}
use Rattle.ranges.proofs.Laws as laws
use Rattle.states.specs.declared.Cell.{Cell}
use Rattle.states.specs.States as states

-- the cell at an index, and its range
abbrev pub cell_at : List Cell → ℕ → Cell
cell_at cs v = get_or cs v states.blank

abbrev pub at : List Cell → ℕ → Range
at cs v = (cell_at cs v).range

-- a cell that is there, whatever a read past the end gives
pub there : (cs : List Cell) (v : ℕ) (a : Cell) → v < length cs → get_or cs v a ≡ cell_at cs v
there [] v a h = absurd (omega arith)
there (c ∷ cs) zero a h = refl
there (c ∷ cs) (suc v) a h = there cs v a (omega arith)

-- ---- each: the first n cells are made, the others and the length stay

pub each_at : (f : Cell → Cell → Cell) (n v : ℕ) (cs ds : List Cell) → v < n → n ≤ length cs → n ≤ length ds → cell_at (states.each f n cs ds) v ≡ f (cell_at cs v) (cell_at ds v)
unfolding states.each
each_at f zero v cs ds h a b = absurd (omega arith)
each_at f (suc n) v [] ds h a b = absurd (omega arith)
each_at f (suc n) v (c ∷ cs) [] h a b = absurd (omega arith)
each_at f (suc n) zero (c ∷ cs) (d ∷ ds) h a b = refl
each_at f (suc n) (suc v) (c ∷ cs) (d ∷ ds) h a b = each_at f n v cs ds (omega arith) (omega arith) (omega arith)

pub each_rest : (f : Cell → Cell → Cell) (n v : ℕ) (cs ds : List Cell) → n ≤ v → cell_at (states.each f n cs ds) v ≡ cell_at cs v
unfolding states.each
each_rest f zero v cs ds h = refl
each_rest f (suc n) v [] ds h = refl
each_rest f (suc n) v (c ∷ cs) [] h = refl
each_rest f (suc n) zero (c ∷ cs) (d ∷ ds) h = absurd (omega arith)
each_rest f (suc n) (suc v) (c ∷ cs) (d ∷ ds) h = each_rest f n v cs ds (omega arith)

pub each_length : (f : Cell → Cell → Cell) (n : ℕ) (cs ds : List Cell) → length (states.each f n cs ds) ≡ length cs
unfolding states.each
each_length f zero cs ds = refl
each_length f (suc n) [] ds = refl
each_length f (suc n) (c ∷ cs) [] = refl
each_length f (suc n) (c ∷ cs) (d ∷ ds) = ap suc (each_length f n cs ds)

-- one more cell is made, whatever a read past the end gives
pub each_more : (f : Cell → Cell → Cell) (i : ℕ) (cs ds : List Cell) (a b : Cell) → i < length cs → i < length ds →
    set (states.each f i cs ds) i (f (get_or (states.each f i cs ds) i a) (get_or ds i b)) ≡ states.each f (suc i) cs ds
unfolding states.each
each_more f i [] ds a b h k = absurd (omega arith)
each_more f i (c ∷ cs) [] a b h k = absurd (omega arith)
each_more f zero (c ∷ cs) (d ∷ ds) a b h k = refl
each_more f (suc i) (c ∷ cs) (d ∷ ds) a b h k = ap (λ (l : List Cell). f c d ∷ l) (each_more f i cs ds a b (omega arith) (omega arith))

-- past the last cell there is none to make
pub each_upto : (f : Cell → Cell → Cell) (m n : ℕ) (cs ds : List Cell) → min m (length cs) ≡ min n (length cs) → states.each f m cs ds ≡ states.each f n cs ds
unfolding states.each
each_upto f zero zero cs ds h = refl
each_upto f zero (suc n) [] ds h = refl
each_upto f zero (suc n) (c ∷ cs) ds h = absurd (omega arith)
each_upto f (suc m) zero [] ds h = refl
each_upto f (suc m) zero (c ∷ cs) ds h = absurd (omega arith)
each_upto f (suc m) (suc n) [] ds h = refl
each_upto f (suc m) (suc n) (c ∷ cs) [] h = refl
each_upto f (suc m) (suc n) (c ∷ cs) (d ∷ ds) h = ap (λ (l : List Cell). f c d ∷ l) (each_upto f m n cs ds (omega arith))

-- ---- every: a test of the first n cells holds just where it holds of each

pub every_at : (f : Cell → Cell → Bool) (n v : ℕ) (cs ds : List Cell) → states.every f n cs ds ≡ true → v < n → n ≤ length cs → n ≤ length ds → f (cell_at cs v) (cell_at ds v) ≡ true
unfolding states.every
every_at f zero v cs ds t h a b = absurd (omega arith)
every_at f (suc n) v [] ds t h a b = absurd (omega arith)
every_at f (suc n) v (c ∷ cs) [] t h a b = absurd (omega arith)
every_at f (suc n) zero (c ∷ cs) (d ∷ ds) t h a b = laws.left_of (f c d) (states.every f n cs ds) t
every_at f (suc n) (suc v) (c ∷ cs) (d ∷ ds) t h a b = every_at f n v cs ds (laws.right_of (f c d) (states.every f n cs ds) t) (omega arith) (omega arith) (omega arith)

pub every_make : (f : Cell → Cell → Bool) (n : ℕ) (cs ds : List Cell) → ((v : ℕ) → v < n → f (cell_at cs v) (cell_at ds v) ≡ true) → states.every f n cs ds ≡ true
unfolding states.every
every_make f zero cs ds t = refl
every_make f (suc n) [] ds t = refl
every_make f (suc n) (c ∷ cs) [] t = refl
every_make f (suc n) (c ∷ cs) (d ∷ ds) t = laws.both (t 0 (omega arith)) (every_make f n cs ds (λ v h. t (suc v) (omega arith)))

-- one more cell is tested
pub every_more : (f : Cell → Cell → Bool) (i : ℕ) (cs ds : List Cell) (a b : Cell) → i < length cs → i < length ds →
    states.every f i cs ds ≡ true → f (get_or cs i a) (get_or ds i b) ≡ true → states.every f (suc i) cs ds ≡ true
unfolding states.every
every_more f i [] ds a b h k t q = absurd (omega arith)
every_more f i (c ∷ cs) [] a b h k t q = absurd (omega arith)
every_more f zero (c ∷ cs) (d ∷ ds) a b h k t q = laws.both q refl
every_more f (suc i) (c ∷ cs) (d ∷ ds) a b h k t q =
    laws.both (laws.left_of (f c d) (states.every f i cs ds) t) (every_more f i cs ds a b (omega arith) (omega arith) (laws.right_of (f c d) (states.every f i cs ds) t) q)

and_false : (b : Bool) → (b && false) ≡ false
and_false true = refl
and_false false = refl

-- one cell fails
pub every_not : (f : Cell → Cell → Bool) (n i : ℕ) (cs ds : List Cell) (a b : Cell) → i < n → i < length cs → i < length ds →
    f (get_or cs i a) (get_or ds i b) ≡ false → states.every f n cs ds ≡ false
unfolding states.every
every_not f zero i cs ds a b l h k q = absurd (omega arith)
every_not f (suc n) i [] ds a b l h k q = absurd (omega arith)
every_not f (suc n) i (c ∷ cs) [] a b l h k q = absurd (omega arith)
every_not f (suc n) zero (c ∷ cs) (d ∷ ds) a b l h k q = rw q refl
every_not f (suc n) (suc i) (c ∷ cs) (d ∷ ds) a b l h k q = rw (every_not f n i cs ds a b (omega arith) (omega arith) (omega arith) q) (and_false (f c d))

-- past the last cell there is none to test
pub every_upto : (f : Cell → Cell → Bool) (m n : ℕ) (cs ds : List Cell) → min m (length cs) ≡ min n (length cs) → states.every f m cs ds ≡ states.every f n cs ds
unfolding states.every
every_upto f zero zero cs ds h = refl
every_upto f zero (suc n) [] ds h = refl
every_upto f zero (suc n) (c ∷ cs) ds h = absurd (omega arith)
every_upto f (suc m) zero [] ds h = refl
every_upto f (suc m) zero (c ∷ cs) ds h = absurd (omega arith)
every_upto f (suc m) (suc n) [] ds h = refl
every_upto f (suc m) (suc n) (c ∷ cs) [] h = refl
every_upto f (suc m) (suc n) (c ∷ cs) (d ∷ ds) h = ap (λ (b : Bool). f c d && b) (every_upto f m n cs ds (omega arith))

-- ---- one cell is set; the others stay

pub set_at : (P : Range → Type 0) (cs : List Cell) (v w : ℕ) (r : Range) → v < length cs → (w ≡ v → P r) → ((w ≡ v → ⊥) → P (at cs w)) → P (at (set cs v (states.cell r)) w)
set_at P cs v w r h one other = go (eqb w v) refl
  where
    go : (b : Bool) → eqb w v ≡ b → P (at (set cs v (states.cell r)) w)
    go true q = subst (λ (k : ℕ). P (at (set cs v (states.cell r)) k)) (sym (eqb-true w v q)) (subst (λ (c : Cell). P c.range) (sym (get_or-set_same cs v (states.cell r) states.blank h)) (one (eqb-true w v q)))
    go false q = subst (λ (c : Cell). P c.range) (sym (get_or-set_other cs v w (states.cell r) states.blank (eqb-false w v q))) (other (eqb-false w v q))

-- lists of cells are equal where their ranges are
pub cells_eq : (cs ds : List Cell) → length cs ≡ length ds → ((v : ℕ) → at cs v ≡ at ds v) → cs ≡ ds
cells_eq cs ds h e = ext_get_or states.blank cs ds h (λ v _. λ i. states.cell (e v i))

-- ---- one turn of the loops that go over cells

-- one more cell is made in the state's own list
pub made_next : (f : Cell → Cell → Cell) (i n : ℕ) (cs ds now : List Cell) (a b c : Cell) → i < n → n ≤ length cs → n ≤ length ds →
    now ≡ states.each f i cs ds → c ≡ f (get_or now i a) (get_or ds i b) → set now i c ≡ states.each f (i + 1) cs ds
made_next f i n cs ds now a b c l h k e m = rw (m, e, add-one) (each_more f i cs ds a b (omega arith) (omega arith))

-- one more cell is tested
pub held_next : (f : Cell → Cell → Bool) (i n : ℕ) (cs ds : List Cell) (a b : Cell) (t : Bool) → i < n → n ≤ length cs → n ≤ length ds →
    states.every f i cs ds ≡ true → t ≡ f (get_or cs i a) (get_or ds i b) → t ≡ true → states.every f (i + 1) cs ds ≡ true
held_next f i n cs ds a b t l h k e m q = rw add-one (every_more f i cs ds a b (omega arith) (omega arith) e (sym m ∙ q))
