use Rattle.std.proofs.Common.{◌≡◌, ◌+◌, ◌%◌, refl, ap, ◌∙◌, rules}
use Rattle.std.proofs.lemmas.Fn.{fold_over, slice_gives, fronts}
use Rattle.scan.specs.Scans.{checksum}
use Rattle.form.proofs.Framings.{checksum_push}
use Rattle.form.proofs.framing.summed.Goals as goal

pub returns : goal.returns
returns c =
    fold_over fronts (λ y. y.now) _ (λ ys a. a ≡ checksum ys) _
    (λ ys a x b f' i k. let e : b ≡ (a + x.now) % 65536 = search rules in (e ∙ rw i (checksum_push ys x.now), search rules))
    c.iter.result _ _ _ (slice_gives c.iter.result) refl c.fold.ensures.ran
    ∙ ap checksum c.iter.ensures.rest
