use Rattle.std.proofs.Common.{◌≡◌, ◌+◌, ◌%◌, refl, ap, ◌∙◌, rules}
use native.Mathlib.Nat.{mod-add-mod}
use Rattle.std.proofs.lemmas.Iterator.{YieldsList-from_slice}
use Rattle.std.proofs.lemmas.Iterator.Consumers.{fold_from_yields_List}
use Rattle.std.proofs.lemmas.List.Folds.{fold_along}
use Rattle.scheme.proofs.polynomial.sum_words.Goals as goal

pub returns : goal.returns
returns c =
    let words = c.args.words.now in
    fold_from_yields_List _ (λ a x. (a + x) % 65536) 0 _ c.fold.ensures.ran (YieldsList-from_slice words cc) (λ a x b q k. search rules)
    ∙ fold_along (λ a x. (a + x) % 65536) ◌+◌ (λ a b. a ≡ b % 65536) (λ a b x e. ap (λ n. (n + x) % 65536) e ∙ mod-add-mod b 65536 x) 0 0 words refl
