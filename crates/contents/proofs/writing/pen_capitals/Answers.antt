use Rattle.std.proofs.Common.{◌≡◌, ◌+◌, ◌-◌, map, length, take, drop, refl, ap, ◌∙◌, arith, rules}
use Rattle.std.proofs.lemmas.List.{places, length-map}
use Rattle.scan.proofs.Numbers.{length_part}
use Rattle.source.specs.Bytes.{part}
use Rattle.pen.proofs.Pens.{mid_told}
use Rattle.contents.specs.Writing.{upper}
use Rattle.contents.proofs.writing.pen_capitals.Goals as goal

pub returns-in_default-clause-value : goal.returns-in_default-clause-value
returns-in_default-clause-value g c = λ l. record { reference = refl; kept = refl; told = c.in_default.ensures _ (length-map _ upper ∙ length_part _ _ _ l) }

pub returns-in-Ok-clause-value : goal.returns-in-Ok-clause-value
unfolding part
returns-in-Ok-clause-value g c = λ l.
    let s = c.in-Some.start in
    let n : length (take (s + c.args.size - s) (drop s c.args.pen.now.out.now)) ≡ c.args.size = search (rules, places) in
    let (kept, told) =
    mid_told c.args.pen.now.out.now s c.args.size _ _ (omega (arith, c.in-Some.ensures.1)) (length-map _ upper ∙ length_part _ _ _ l)
    (c.capitalize.ensures ∙ ap (map upper) (rw n at c.in-Ok.ensures.value.1)) in
    record { reference = refl; kept = kept; told = rw c.in-Some.ensures.0 told }
