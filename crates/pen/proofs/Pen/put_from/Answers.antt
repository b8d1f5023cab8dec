use Rattle.std.proofs.Common.{◌≡◌, ℕ, ◌+◌, ◌-◌, ◌≤◌, List, length, take, drop, true, Ok, Err, Result, refl, ap, ◌∙◌, arith, rules}
use Rattle.std.proofs.lemmas.List.{places}
use Rattle.std.specs.Result.{is_ok}
use Rattle.source.specs.Bytes.{part}
use Rattle.source.specs.Fetch.{Fetched}
use Rattle.source.specs.declared.refusals.Refusal.{Refusal}
use Rattle.scan.proofs.Numbers.{length_part}
use Rattle.pen.proofs.Pens.{mid_told}
use Rattle.pen.proofs.Pen.put_from.Goals as goal

pub returns-in_default-clause-value : goal.returns-in_default-clause-value
returns-in_default-clause-value g c = λ l. record { reference = refl; kept = refl; told = c.in_default.ensures _ (length_part _ _ _ l) }

fetched_ok : (xs : List ℕ) (place : ℕ) (before after : List ℕ) (r : Result (Unit {0}) Refusal) → Fetched xs place before after r
    → place + length before ≤ length xs → (r ≡ Ok tt) × (after ≡ take (length before) (drop place xs))
fetched_ok xs place before after (Ok x) f h = (refl, f.1)
fetched_ok xs place before after (Err e) f h = absurd (omega (arith, f.0))

pub returns-clause-value : goal.returns-clause-value
unfolding part
returns-clause-value g c = λ l.
    let s = c.in-Some.start in
    let n : length (take (s + c.args.size - s) (drop s c.args.self.now.out.now)) ≡ c.args.size = search (rules, places) in
    let (o, v) = fetched_ok _ _ _ _ _ c.fetch-fetched.ensures.value (rw n l) in
    let (kept, told) = mid_told c.args.self.now.out.now s c.args.size _ _ (omega (arith, c.in-Some.ensures.1)) (length_part _ _ _ l) (rw n at v) in
    let b : c.is_ok.result ≡ true = c.is_ok.ensures.value ∙ ap is_ok o in
    record { reference = refl; kept = kept; told = rw (c.then_some-self.ensures, b, c.in-Some.ensures.0) told }
