-- `all_in_range` meets its contract: the parts one after the other.
use Rattle.std.proofs.Common.{◌≡◌, true, ◌&&◌, subst, refl, rules, ◌∙◌}
use Rattle.std.specs.List.{fold}
use Rattle.std.proofs.lemmas.Fn.{fold_over, slice_gives, fronts}
use Rattle.std.proofs.lemmas.List.Sums.{fold_push}
use Rattle.soft_theory.specs.Numbers.{f32}
use Rattle.soft_theory.specs.Soft.{in_range}
use Rattle.soft.proofs.Range.{fold_range}
use Rattle.soft.proofs.all_in_range.Goals as goal

pub returns : goal.returns
returns c =
    subst (λ l. c.fold.result ≡ fold (λ b v. b && in_range f32 v) true l) c.iter.ensures.rest
    (fold_over fronts (λ y. y.now) _ (λ ys a. a ≡ fold (λ b v. b && in_range f32 v) true ys) _
    (λ ys a x b f' j k. let more = fold_push (λ b v. b && in_range f32 v) true ys x.now in search rules)
    _ _ _ _ (slice_gives c.iter.result) refl c.fold.ensures.ran)
    ∙ fold_range c.args.x.now
