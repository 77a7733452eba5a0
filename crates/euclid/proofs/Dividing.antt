-- The steps of a division.
use Rattle.std.proofs.Common.{◌≡◌, ℕ, ◌+◌, ◌-◌, ◌<◌, ◌≤◌, sym, refl, ap, ◌∙◌, ap₂, ⊎_elim, arith}
use Rattle.std.proofs.lemmas.Bool.{cases_lt}
use Rattle.algebra.specs.Exact.{Ops, Laws}
use Rattle.euclid.specs.Series.{product_at, monomial, polynomials, Below}
use Rattle.euclid.specs.Method.{Taken}
use Rattle.euclid.proofs.Algebra as algebra
use Rattle.euclid.proofs.Product.{polynomial_laws}
use Rattle.euclid.proofs.Monomials.{monomial_below, monomial_minus, shifted_at}
use Rattle.euclid.proofs.Degrees.{below_plus}

module _ {A : Type 0} {o : Ops A} (L : Laws o) where
  pub below_more : (r d : ℕ → A) (c lead : A) (s size i : ℕ) → 0 < size → s + size ≡ i → Below o i r → Below o size d → c ≡ o.times (r (i - 1)) lead → o.times (d (size - 1)) lead ≡ o.unit → Below o (i - 1) (λ k. o.plus (r k) (product_at o (monomial o (o.minus c) s) d k))
  below_more r d c lead s size i pos e br bd ec el k h =
      ⊎_elim
      (λ (l : k < i).
      let f : k ≡ i - 1 = omega arith in
      let f' : s + (size - 1) ≡ k = omega arith in
      ap₂ o.plus (ap r f) (shifted_at L (o.minus c) s d (size - 1) k f') ∙ algebra.lead_gone L (r (i - 1)) (d (size - 1)) lead c ec el)
      (λ (l : i ≤ k).
      let f : s + (k - s) ≡ k = omega arith in
      let z : d (k - s) ≡ o.nought = bd (k - s) (omega arith) in
      ap₂ o.plus (br k l) (shifted_at L (o.minus c) s d (k - s) k f ∙ ap (o.times (o.minus c)) z ∙ algebra.times_nought L (o.minus c)) ∙ L.plus_nought _)
      (cases_lt k i)

  pub moved : (a d q r : ℕ → A) (c : A) (s : ℕ) → a ≡ (polynomials o).plus ((polynomials o).times q d) r → a ≡ (polynomials o).plus ((polynomials o).times ((polynomials o).plus q (monomial o c s)) d) ((polynomials o).plus r ((polynomials o).times (monomial o (o.minus c) s) d))
  moved a d q r c s inv = algebra.whole_more (polynomial_laws L) a d q r (monomial o c s) (monomial o (o.minus c) s) (monomial_minus L c s) inv

  -- nothing taken yet
  pub taken_none : (places : ℕ) (r s t v : ℕ → A) → Taken o places r s t v r t
  taken_none places r s t v =
      let P = polynomial_laws L in
      let O = polynomials o in
      record {
        quotient = O.nought;
        bound = λ k h. refl;
        whole = sym (ap (λ w. O.plus w r) (algebra.nought_times P s) ∙ algebra.nought_plus P r);
        factor = sym (ap (λ w. O.plus t (O.times w v)) (algebra.minus_nought P) ∙ ap (O.plus t) (algebra.nought_times P v) ∙ P.plus_nought t);
      }

  -- c · x^k times s and v taken as well
  pub taken_more : (places : ℕ) (r s t v r₁ t₁ r₂ t₂ : ℕ → A) (c : A) (k : ℕ) → k < places → Taken o places r s t v r₁ t₁ → r₂ ≡ (polynomials o).plus r₁ ((polynomials o).times (monomial o (o.minus c) k) s) → t₂ ≡ (polynomials o).plus t₁ ((polynomials o).times (monomial o (o.minus c) k) v) → Taken o places r s t v r₂ t₂
  taken_more places r s t v r₁ t₁ r₂ t₂ c k h T er et =
      let P = polynomial_laws L in
      let O = polynomials o in
      let q = T.quotient in
      let M = monomial o c k in
      let M' = monomial o (o.minus c) k in
      let minus_is : O.minus (O.plus q M) ≡ O.plus (O.minus q) M' =
      algebra.minus_sum P q M ∙ ap (O.plus (O.minus q)) (sym (algebra.minus_only P M M' (monomial_minus L c k))) in
      record {
        quotient = O.plus q M;
        bound = below_plus L places q M T.bound (λ i l. monomial_below L c k i (omega arith));
        whole = moved r s q r₁ c k T.whole ∙ ap (O.plus (O.times (O.plus q M) s)) (sym er);
        factor =
            et
            ∙ ap (λ w. O.plus w (O.times M' v)) T.factor
            ∙ P.plus_assoc t (O.times (O.minus q) v) (O.times M' v)
            ∙ ap (O.plus t) (sym (algebra.plus_times P (O.minus q) M' v) ∙ ap (λ w. O.times w v) (sym minus_is));
      }

  -- the highest coefficient of r taken away by a multiple of s, and the same multiple of v taken from t
  pub step_both : (places : ℕ) (r s t v r₁ t₁ r₂ t₂ : ℕ → A) (x lead c : A) (k m n : ℕ) → 0 < m → k + m ≡ n → k < places → Below o n r₁ → Below o m s → x ≡ o.times (r₁ (n - 1)) lead → o.times (s (m - 1)) lead ≡ o.unit → c ≡ o.minus x → Taken o places r s t v r₁ t₁ → r₂ ≡ (polynomials o).plus r₁ ((polynomials o).times (monomial o c k) s) → t₂ ≡ (polynomials o).plus t₁ ((polynomials o).times (monomial o c k) v) → Below o (n - 1) r₂ × Taken o places r s t v r₂ t₂
  step_both places r s t v r₁ t₁ r₂ t₂ x lead c k m n pos e h br bs ex el ec T er et =
      let O = polynomials o in
      let er' : r₂ ≡ O.plus r₁ (O.times (monomial o (o.minus x) k) s) = er ∙ ap (λ w. O.plus r₁ (O.times (monomial o w k) s)) ec in
      let et' : t₂ ≡ O.plus t₁ (O.times (monomial o (o.minus x) k) v) = et ∙ ap (λ w. O.plus t₁ (O.times (monomial o w k) v)) ec in (
        λ i l. ap (λ f. f i) er' ∙ below_more r₁ s x lead k m n pos e br bs ex el i l,
        taken_more places r s t v r₁ t₁ r₂ t₂ x k h T er' et',
      )
