-- The lines of a kept list, beside those of its trace, and the heights read off them (document 01, "The trace and its links").
--   Fraction              a signed numerator over a denominator
--   link_at               the straight line of a link at the tick a/d
--   line_from, line_at    the lines of the list i ∷ s and of any list at the tick a/d
--   samples_after         the n samples after sample i
--   every_sample, all_of  the list of the samples 0 .. last; of all samples of a trace
--   trace_at              the lines of all samples: the trace's own
--   OnTrace               a/d is a tick between the first and the last, whole or fractional
--   Excess                a fraction is at most p/q above another
--   Near                  a fraction that stands for another is at most so much too large and at most so much too small
--   Apart                 two fractions differ by at most p/q: near, with p/q on either side
--   Equals, Between       a fraction is a whole number; it lies between two
--   higher, lower         the higher and the lower of two values
--   joined, of_samples    the values of the samples i ∷ s, or of any list, joined by a function of two
--   peak, trough, height  the greatest and the least value of a list's samples, and their difference
--   Attained, Extremes    a list's lines have a value at some sample; peak and trough are the greatest and the least value on them
-- A fraction with the denominator 0 is none: Excess, Near, Apart, Equals and Between ask for more. Laws are in proofs/. Assumes nothing.
use Rattle.std.specs.Prelude.{◌≡◌, cond, List, [], ◌∷◌, ℕ, zero, suc, ◌-◌, ◌*◌, ◌≤◌, leb, ℤ, pos, nat_abs, ◌+ℤ◌, ◌-ℤ◌, ◌*ℤ◌, length, ◌≤ℤ◌}
use Rattle.std.specs.Int.Signed.{le_z}
use Rattle.ratio.specs.declared.Ratio.{Ratio}
use Rattle.trace.specs.Trace.{tick, value}

-- num / den
pub record Fraction : Type 0 where
  pub num : ℤ
  pub den : ℕ

-- ---- lines

-- The line through samples i and j at the tick a/d: (vi (d tj - a) + vj (a - d ti)) / (d (tj - ti)).
unfoldable pub link_at : List ℕ → List ℤ → ℕ → ℕ → ℕ → ℕ → Fraction
link_at ts vs i j a d = record {
  num = value vs i *ℤ (pos (d * tick ts j) -ℤ pos a) +ℤ value vs j *ℤ (pos a -ℤ pos (d * tick ts i));
  den = d * (tick ts j - tick ts i);
}

-- the lines of i ∷ s: the first link that ends at or after the tick decides; a sample alone has its value
unfoldable pub line_from : List ℕ → List ℤ → ℕ → List ℕ → ℕ → ℕ → Fraction
line_from ts vs i [] a d = record { num = value vs i; den = 1 }
line_from ts vs i (j ∷ s) a d = cond (leb a (d * tick ts j)) (link_at ts vs i j a d) (line_from ts vs j s a d)

abbrev pub line_at : List ℕ → List ℤ → List ℕ → ℕ → ℕ → Fraction
line_at ts vs [] a d = record { num = pos 0; den = 0 }
line_at ts vs (i ∷ s) a d = line_from ts vs i s a d

-- the n samples after i
unfoldable pub samples_after : ℕ → ℕ → List ℕ
samples_after i zero = []
samples_after i (suc n) = suc i ∷ samples_after (suc i) n

-- the samples 0 .. last
abbrev pub every_sample : ℕ → List ℕ
every_sample last = 0 ∷ samples_after 0 last

abbrev pub all_of : List ℕ → List ℕ
all_of ts = every_sample (length ts - 1)

-- the trace's own line
abbrev pub trace_at : List ℕ → List ℤ → ℕ → ℕ → Fraction
trace_at ts vs a d = line_at ts vs (all_of ts) a d

pub record OnTrace (ts : List ℕ) (a d : ℕ) : Type 0 where
  pub positive : 1 ≤ d
  pub from : d * tick ts 0 ≤ a
  pub to : a ≤ d * tick ts (length ts - 1)

-- ---- fractions

-- x - y ≤ p/q, times both denominators and q
pub record Excess (r : Ratio) (x y : Fraction) : Type 0 where
  pub left : 1 ≤ x.den
  pub right : 1 ≤ y.den
  pub above : ((x.num *ℤ pos y.den -ℤ y.num *ℤ pos x.den) *ℤ pos r.q) ≤ℤ pos (r.p * (x.den * y.den))

-- x stands for y, and is at most a too large and at most b too small
pub record Near (a b : Ratio) (x y : Fraction) : Type 0 where
  pub large : Excess a x y
  pub small : Excess b y x

-- |x - y| ≤ p/q, times both denominators and q
pub record Apart (r : Ratio) (x y : Fraction) : Type 0 where
  pub left : 1 ≤ x.den
  pub right : 1 ≤ y.den
  pub apart : nat_abs (x.num *ℤ pos y.den -ℤ y.num *ℤ pos x.den) * r.q ≤ r.p * (x.den * y.den)

pub record Equals (x : Fraction) (v : ℤ) : Type 0 where
  pub positive : 1 ≤ x.den
  pub is : x.num ≡ v *ℤ pos x.den

pub record Between (low high : ℤ) (x : Fraction) : Type 0 where
  pub positive : 1 ≤ x.den
  pub from : (low *ℤ pos x.den) ≤ℤ x.num
  pub to : x.num ≤ℤ (high *ℤ pos x.den)

-- ---- heights

abbrev pub higher : ℤ → ℤ → ℤ
higher x y = cond (le_z x y) y x

abbrev pub lower : ℤ → ℤ → ℤ
lower x y = cond (le_z x y) x y

-- the values of the samples i ∷ s joined by f
unfoldable pub joined : (ℤ → ℤ → ℤ) → List ℤ → ℕ → List ℕ → ℤ
joined f vs i [] = value vs i
joined f vs i (j ∷ s) = f (value vs i) (joined f vs j s)

abbrev pub of_samples : (ℤ → ℤ → ℤ) → List ℤ → List ℕ → ℤ
of_samples f vs [] = pos 0
of_samples f vs (i ∷ s) = joined f vs i s

abbrev pub peak : List ℤ → List ℕ → ℤ
peak vs l = of_samples higher vs l

abbrev pub trough : List ℤ → List ℕ → ℤ
trough vs l = of_samples lower vs l

abbrev pub height : List ℤ → List ℕ → ℤ
height vs l = peak vs l -ℤ trough vs l

pub record Attained (ts : List ℕ) (vs : List ℤ) (l : List ℕ) (v : ℤ) : Type 0 where
  pub sample : ℕ
  pub inside : sample ≤ length ts - 1
  pub on : OnTrace ts (tick ts sample) 1
  pub at : Equals (line_at ts vs l (tick ts sample) 1) v

-- peak and trough are the greatest and the least value on the list's lines
pub record Extremes (ts : List ℕ) (vs : List ℤ) (l : List ℕ) : Type 0 where
  pub between : (a d : ℕ) → OnTrace ts a d → Between (trough vs l) (peak vs l) (line_at ts vs l a d)
  pub highest : Attained ts vs l (peak vs l)
  pub lowest : Attained ts vs l (trough vs l)
