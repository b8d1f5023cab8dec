-- Things of one kind in a row, by a reader that answers the place behind one.
use Rattle.std.specs.Prelude.{◌≡◌, ℕ, zero, suc, ◌≤◌, List, length, IfOk, Ok}
use Rattle.std.specs.Borrow.{MutBor}
use Rattle.source.specs.Content.{Content, meaning}
use Rattle.source.specs.Outcome.{Outcome, ◌>>=◌}

-- The place behind n things, each behind the one before.
unfoldable pub stepped : (ℕ → Outcome ℕ) → ℕ → ℕ → Outcome ℕ
unfolding ◌>>=◌
stepped next zero p = Ok p
stepped next (suc n) p = do
  q ← next p
  stepped next n q

module _ {S : Type 0} (content : S → Content) (end : ℕ) (post : MutBor S → ℕ → Outcome ℕ → MutBor S → Type 0) where
  -- A call at a source that has the data leaves its content, and answers no place past them.
  abbrev pub Stays : Type 0
  Stays = (x y : MutBor S) (p : ℕ) (r : Outcome ℕ) → end ≤ length (meaning (content x.now)) → post x p r y
      → (content y.now ≡ content x.now) × IfOk r (λ n. n ≤ end)

  -- A call answers what `next` says of the bytes and the place.
  abbrev pub Gives : (List ℕ → ℕ → Outcome ℕ) → Type 0
  Gives next = (x y : MutBor S) (p : ℕ) (r : Outcome ℕ) → end ≤ length (meaning (content x.now)) → post x p r y
      → r ≡ next (meaning (content x.now)) p
