use Rattle.std.proofs.Common.{◌≡◌, ℕ, ◌-◌, length, take, replicate, ap, ◌∙◌, arith, rules}
use Rattle.std.proofs.lemmas.List.{places}
use Rattle.source.proofs.Spans.{both_parts}
use Rattle.draft.proofs.store.Goals as goal

pub returns : goal.returns
returns c =
    let e : c.copy_from_slice.new.self ≡ take c.args.n c.args.bytes.now = c.copy_from_slice.ensures.after ∙ ap (λ (k : ℕ). take k c.args.bytes.now) (omega arith) in
    let l : length c.copy_from_slice.new.self ≡ c.args.n = search (rules, places) in
    let z : c.fill.new.self ≡ replicate (length c.args.area.now - c.args.n) 0 =
    c.fill.ensures.after (λ y q. q) ∙ ap (λ (k : ℕ). replicate k 0) (search (rules, places)) in
    both_parts _ _ c.copy_from_slice.new.self c.fill.new.self (omega arith) l (search (rules, places)) ∙ rw (e, z)
