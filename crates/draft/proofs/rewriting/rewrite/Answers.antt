use Rattle.std.proofs.Common.{◌≡◌, ◌-◌, min, [], length, take, ◌∙◌, arith}
use Rattle.std.proofs.lemmas.List.{length-take}
use Rattle.source.specs.Content.{source_limit}
use Rattle.draft.proofs.Rewritten.{wrote_form, wrote_front}
use Rattle.draft.proofs.rewriting.rewrite.Goals as goal

pub returns : goal.returns
returns g c =
    let (s, m) = c.in_ok-input.ensures in
    let v = rw m at c.fill.ensures.value in
    let l : length (take (c.min-most.result - 0) c.args.bytes.now) ≡ min c.args.room source_limit = omega (arith, length-take (c.min-most.result - 0) c.args.bytes.now, c.min-most.ensures, c.requires.fits) in
    record {
      outcome = λ a h. c.ok_or.ensures.value ∙ wrote_form c.args.room _ _ _ [] l _ (v a h);
      form = λ a h. wrote_front c.args.room _ _ _ _ l _ (v a h);
    }
