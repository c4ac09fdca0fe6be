-- Laws of runs: the bytes of a record with its end, or without it.
--   EndOrNone   the end that n samples have, or none
--   opening     a tolerance and samples, before other bytes
--   Opened      bytes whose first k are a tolerance, samples and an end or none
-- Assumes nothing.
use mathlib.Core.Path.{◌≡◌, refl, sym, ap, ◌∙◌}
use mathlib.Core.Logic.{◌⊎◌, inl, inr}
use mathlib.Core.List.{List, [], ◌∷◌, ◌++◌, append_assoc}
use Prim.Native.Nat.{ℕ, ◌≤◌}
use native.Mathlib.Omega.{arith}
use lib.IntN.{ℤ}
use lib.ListN.{length, take, drop, length-append, length-drop, take-append-drop}
use lib.Seq.{take_at}
use Rattle.tolerance.specs.declared.Parts.{Parts}
use Rattle.trace.specs.Level.{level}
use Rattle.format.specs.Command.{command_onto}
use Rattle.format.specs.Format.{Content, Legal, tolerance_command, step_to, steps_onto, samples_onto, encode}
use Rattle.format.specs.Fault.{Run, unended, complete}
use Rattle.format.specs.declared.Command.{Command}
use Rattle.format.specs.declared.Command.TheVariants.{First, End}
use Rattle.format.proofs.CommandLaws.{command_append}

abbrev pub EndOrNone : ℕ → List ℕ → Type 0
EndOrNone n e = (e ≡ []) ⊎ (e ≡ command_onto (End n) [])

onto_append : (m : Command) (xs ys : List ℕ) → command_onto m (xs ++ ys) ≡ command_onto m xs ++ ys
onto_append m xs ys = command_append m (xs ++ ys) ∙ sym (append_assoc (command_onto m []) xs ys) ∙ ap (λ (r : List ℕ). r ++ ys) (sym (command_append m xs))

steps_append : (t l : ℕ) (ts : List ℕ) (vs : List ℤ) (xs ys : List ℕ) → steps_onto t l ts vs (xs ++ ys) ≡ steps_onto t l ts vs xs ++ ys
unfolding steps_onto
steps_append t l [] vs xs ys = refl
steps_append t l (t' ∷ ts) [] xs ys = refl
steps_append t l (t' ∷ ts) (v ∷ vs) xs ys =
    let m : Command = step_to t l t' (level v) in
    ap (command_onto m) (steps_append t' (level v) ts vs xs ys) ∙ onto_append m (steps_onto t' (level v) ts vs xs) ys

pub front : (b : List ℕ) (k : ℕ) (s : List ℕ) → k ≤ length b → b ≡ s ++ drop k b → take k b ≡ s
front b k s h e = ap (take k) e ∙ take_at s (drop k b) k (omega (arith, ap length e ∙ length-append s (drop k b), length-drop k b))

pub behind : (b : List ℕ) (k : ℕ) (s : List ℕ) → take k b ≡ s → b ≡ s ++ drop k b
behind b k s e = sym (take-append-drop k b) ∙ ap (λ (r : List ℕ). r ++ drop k b) e

cancel : (s t e : List ℕ) → s ++ e ≡ t ++ e → s ≡ t
cancel s t e h =
    sym (take_at s e (length s) refl) ∙ ap (take (length s)) h
    ∙ take_at t e (length s) (omega (arith, ap length h, length-append s e, length-append t e))

module _ (x : Parts) (t : ℕ) (ts : List ℕ) (v : ℤ) (vs : List ℤ) where
  abbrev pub content : Content
  content = record { tolerance = x; ticks = t ∷ ts; values = v ∷ vs }

  abbrev pub opening : List ℕ → List ℕ
  opening xs = command_onto (tolerance_command x) (command_onto (First t (level v)) (steps_onto t (level v) ts vs xs))

  opening_append : (xs ys : List ℕ) → opening (xs ++ ys) ≡ opening xs ++ ys
  opening_append xs ys =
      let s : List ℕ = steps_onto t (level v) ts vs xs in
      rw (steps_append t (level v) ts vs xs ys, onto_append (First t (level v)) s ys) (onto_append (tolerance_command x) (command_onto (First t (level v)) s) ys)

  pub record Opened (b : List ℕ) (k : ℕ) : Type 0 where
    pub legal : Legal content
    pub end : List ℕ
    pub ends : EndOrNone (length (t ∷ ts)) end
    pub bytes : b ≡ opening (end ++ drop k b)

  module _ (b : List ℕ) (k : ℕ) where
    pub opened_run : k ≤ length b → Opened b k → Run (take k b)
    unfolding encode samples_onto
    opened_run h o = go o.end (o.bytes ∙ opening_append o.end (drop k b)) o.ends
      where
        go : (e : List ℕ) → b ≡ opening e ++ drop k b → EndOrNone (length (t ∷ ts)) e → Run (take k b)
        go e f (inl g) = unended content o.legal (rw (front b k (opening e) h f, g) (sym (opening_append [] (command_onto (End (length (t ∷ ts))) []))))
        go e f (inr g) = complete content o.legal (rw (front b k (opening e) h f, g))

    opened : Legal content → (e : List ℕ) → EndOrNone (length (t ∷ ts)) e → take k b ≡ opening e → Opened b k
    opened h e w f = record {
      legal = h;
      end = e;
      ends = w;
      bytes = behind b k (opening e) f ∙ sym (opening_append e (drop k b));
    }

    pub unended_opened : Legal content → take k b ++ command_onto (End (length (t ∷ ts))) [] ≡ encode content → Opened b k
    unfolding encode samples_onto
    unended_opened h e =
        let end : List ℕ = command_onto (End (length (t ∷ ts))) [] in
        opened h [] (inl refl) (cancel (take k b) (opening []) end (e ∙ opening_append [] end))

    pub complete_opened : Legal content → take k b ≡ encode content → Opened b k
    unfolding encode samples_onto
    complete_opened h e = opened h (command_onto (End (length (t ∷ ts))) []) (inr refl) e
