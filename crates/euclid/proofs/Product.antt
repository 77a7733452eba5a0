-- Polynomials over a commutative ring are one again.
use Rattle.std.proofs.Common.{◌≡◌, ℕ, zero, suc, sym, refl, ap, ◌∙◌}
use mathlib.Core.Path.{fun_ext}
use Rattle.algebra.specs.Exact.{Ops, Laws}
use Rattle.euclid.specs.Series.{product_at, monomial, polynomials}
use Rattle.euclid.proofs.Algebra as algebra

module _ {A : Type 0} {o : Ops A} (L : Laws o) where
  times_plus_at : (a b c : ℕ → A) (n : ℕ) → product_at o a (λ k. o.plus (b k) (c k)) n ≡ o.plus (product_at o a b n) (product_at o a c n)
  times_plus_at a b c zero = L.times_plus (a 0) (b 0) (c 0)
  times_plus_at a b c (suc n) =
      ap (λ w. o.plus w (product_at o (λ i. a (suc i)) (λ k. o.plus (b k) (c k)) n)) (L.times_plus (a 0) (b (suc n)) (c (suc n)))
      ∙ ap (o.plus _) (times_plus_at (λ i. a (suc i)) b c n)
      ∙ algebra.plus_swap L _ _ _ _

  plus_times_at : (a b c : ℕ → A) (n : ℕ) → product_at o (λ k. o.plus (a k) (b k)) c n ≡ o.plus (product_at o a c n) (product_at o b c n)
  plus_times_at a b c zero = algebra.plus_times L (a 0) (b 0) (c 0)
  plus_times_at a b c (suc n) =
      ap (λ w. o.plus w (product_at o (λ i. o.plus (a (suc i)) (b (suc i))) c n)) (algebra.plus_times L (a 0) (b 0) (c (suc n)))
      ∙ ap (o.plus _) (plus_times_at (λ i. a (suc i)) (λ i. b (suc i)) c n)
      ∙ algebra.plus_swap L _ _ _ _

  scale_at : (s : A) (a b : ℕ → A) (n : ℕ) → product_at o (λ k. o.times s (a k)) b n ≡ o.times s (product_at o a b n)
  scale_at s a b zero = L.times_assoc s (a 0) (b 0)
  scale_at s a b (suc n) =
      ap (λ w. o.plus w (product_at o (λ i. o.times s (a (suc i))) b n)) (L.times_assoc s (a 0) (b (suc n)))
      ∙ ap (o.plus _) (scale_at s (λ i. a (suc i)) b n)
      ∙ sym (L.times_plus s _ _)

  -- the last summand apart
  last_at : (a b : ℕ → A) (n : ℕ) → product_at o a b (suc n) ≡ o.plus (product_at o a (λ i. b (suc i)) n) (o.times (a (suc n)) (b 0))
  last_at a b zero = refl
  last_at a b (suc n) = ap (o.plus _) (last_at (λ i. a (suc i)) b n) ∙ sym (L.plus_assoc _ _ _)

  comm_at : (a b : ℕ → A) (n : ℕ) → product_at o a b n ≡ product_at o b a n
  comm_at a b zero = L.times_comm (a 0) (b 0)
  comm_at a b (suc n) =
      ap (o.plus _) (comm_at (λ i. a (suc i)) b n) ∙ L.plus_comm _ _ ∙ ap (o.plus (product_at o b (λ i. a (suc i)) n)) (L.times_comm (a 0) (b (suc n))) ∙ sym (last_at b a n)

  assoc_at : (a b c : ℕ → A) (n : ℕ) → product_at o (product_at o a b) c n ≡ product_at o a (product_at o b c) n
  assoc_at a b c zero = L.times_assoc (a 0) (b 0) (c 0)
  assoc_at a b c (suc n) =
      ap (o.plus _) (plus_times_at (λ i. o.times (a 0) (b (suc i))) (product_at o (λ i. a (suc i)) b) c n)
      ∙ ap (λ w. o.plus (o.times (o.times (a 0) (b 0)) (c (suc n))) (o.plus w (product_at o (product_at o (λ i. a (suc i)) b) c n))) (scale_at (a 0) (λ i. b (suc i)) c n)
      ∙ sym (L.plus_assoc _ _ _)
      ∙ ap (λ w. o.plus (o.plus w (o.times (a 0) (product_at o (λ i. b (suc i)) c n))) (product_at o (product_at o (λ i. a (suc i)) b) c n)) (L.times_assoc (a 0) (b 0) (c (suc n)))
      ∙ ap (λ w. o.plus w (product_at o (product_at o (λ i. a (suc i)) b) c n)) (sym (L.times_plus (a 0) _ _))
      ∙ ap (o.plus _) (assoc_at (λ i. a (suc i)) b c n)

  unit_at : (a : ℕ → A) (n : ℕ) → product_at o a (monomial o o.unit 0) n ≡ a n
  unit_at a zero = L.times_unit (a 0)
  unit_at a (suc n) =
      ap (λ w. o.plus w (product_at o (λ i. a (suc i)) (monomial o o.unit 0) n)) (algebra.times_nought L (a 0))
      ∙ algebra.nought_plus L _ ∙ unit_at (λ i. a (suc i)) n

  pub polynomial_laws : Laws (polynomials o)
  polynomial_laws = record {
    plus_nought = λ a. fun_ext (λ k. L.plus_nought (a k));
    plus_minus = λ a. fun_ext (λ k. L.plus_minus (a k));
    plus_comm = λ a b. fun_ext (λ k. L.plus_comm (a k) (b k));
    plus_assoc = λ a b c. fun_ext (λ k. L.plus_assoc (a k) (b k) (c k));
    times_unit = λ a. fun_ext (unit_at a);
    times_comm = λ a b. fun_ext (comm_at a b);
    times_assoc = λ a b c. fun_ext (assoc_at a b c);
    times_plus = λ a b c. fun_ext (times_plus_at a b c);
    apart = λ e. L.apart (ap (λ f. f 0) e);
  }
