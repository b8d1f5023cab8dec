-- Streams are read exactly where the grammar tells them.
use Rattle.std.proofs.Common.{◌≡◌, ℕ, ◌+◌, ◌-◌, ◌≤◌, true, false, ◌↔◌, List, [], ◌∷◌, ◌++◌, map, length, take, drop, Ok, sym, refl, ap, ◌∙◌, arith}
use Rattle.std.specs.List.{AllByRecursion}
use Rattle.std.proofs.lemmas.List.{length-take-le, length-drop, take-append-drop, drop-drop}
use Rattle.std.proofs.lemmas.Bool.{le-leb, leb-true, eqb-true, and_parts, both_ways}
use Rattle.source.specs.Bytes.{part, val, same_bytes}
use Rattle.source.specs.Outcome.{◌>>=◌, ◌>>◌, over}
use Rattle.frame.specs.Frames.{signature, header}
use Rattle.frame.specs.declared.stages.Stage.TheVariants as stage
use Rattle.stream.specs.Reading.{entries_of}
use Rattle.stream.specs.Messages.{Message, message_of, read}
use Rattle.message.specs.Sameness.{Carries}
use Rattle.message.specs.Grammar.{run, Laid, frame_bytes, Right, Stream}
use Rattle.message.proofs.Outcomes.{bind_ok, need_ok, over_ok}
use Rattle.message.proofs.FrameReads.{entry, Allowed, entries_back, Told, entries_give}
use Rattle.message.proofs.Orders.{allowed_ordered, ordered_allowed}
use Rattle.message.proofs.Earliest.{tells, tells_back}

same_bytes_true : (xs ys : List ℕ) → same_bytes xs ys ≡ true → xs ≡ ys
same_bytes_true [] [] e = refl
same_bytes_true [] (y ∷ ys) e = absurd (both_ways false refl e)
same_bytes_true (x ∷ xs) [] e = absurd (both_ways false refl e)
same_bytes_true (x ∷ xs) (y ∷ ys) e = let (a, b) = and_parts _ _ e in rw (eqb-true x y a, same_bytes_true xs ys b)

header_gives : (xs : List ℕ) (k : ℕ) → header xs ≡ Ok k → (6 ≤ length xs) × (take 4 xs ≡ signature)
unfolding header
header_gives xs k e =
    let (a, e₁) = need_ok _ _ _ _ _ e in
    let (b, e₂) = need_ok _ _ _ _ _ e₁ in
    (leb-true 6 (length xs) a, same_bytes_true (take 4 xs) signature b)

header_back : (key bs : List ℕ) → length key ≡ 2 → (k : ℕ) × (header (signature ++ (key ++ bs)) ≡ Ok k) × (drop 6 (signature ++ (key ++ bs)) ≡ bs) × (length (signature ++ (key ++ bs)) ≡ 6 + length bs)
unfolding header ◌>>◌
header_back [] bs l = absurd (omega arith)
header_back (a ∷ []) bs l = absurd (omega arith)
header_back (a ∷ (b ∷ [])) bs l = (val (part (signature ++ (a ∷ (b ∷ bs))) 4 2), rw (le-leb 6 (length (signature ++ (a ∷ (b ∷ bs)))) (omega arith)), refl, omega arith)
header_back (a ∷ (b ∷ (c ∷ key))) bs l = absurd (omega arith)

stream_gives : (xs : List ℕ) (m : Message) → Carries xs m → Stream xs m
unfolding read entries_of
stream_gives xs m e =
    let (es, ee, same) = over_ok _ _ _ e in
    let (k, ek, e₁) = bind_ok _ _ _ ee in
    let (six, sign) = header_gives xs k ek in
    let told : Told xs 6 stage.Version es = entries_give (length xs) xs 6 stage.Version es six e₁ in
    let two : length (drop 4 xs) ≡ length xs - 4 = length-drop 4 xs in
    let order = allowed_ordered told.frames told.allowed in
    let whole : message_of (map entry told.frames) ≡ m = ap message_of told.tells ∙ same in
    record {
      frames = told.frames;
      bytes = record {
        front = take 4 xs;
        back = drop 4 xs;
        joins = sym (take-append-drop 4 xs);
        one = sign;
        other = record {
          front = take 2 (drop 4 xs);
          back = drop 6 xs;
          joins = sym (take-append-drop 2 (drop 4 xs)) ∙ ap (λ l. take 2 (drop 4 xs) ++ l) (drop-drop 2 4 xs);
          one = length-take-le 2 (drop 4 xs) (omega arith);
          other = told.bytes;
        };
      };
      right = told.right;
      order = order;
      tells = rw whole at (tells told.frames order told.right);
    }

entries_told : (key bs : List ℕ) (fs : List Laid) → length key ≡ 2 → AllByRecursion Right fs → Allowed stage.Version fs → run frame_bytes fs bs → entries_of (signature ++ (key ++ bs)) ≡ Ok (map entry fs)
unfolding entries_of ◌>>=◌
entries_told key bs fs l right all w =
    let (k, ek, rest, long) = header_back key bs l in
    rw ek (entries_back fs (length (signature ++ (key ++ bs))) (signature ++ (key ++ bs)) 6 stage.Version right all (rw rest w) (omega arith) (omega arith))

stream_back : (xs : List ℕ) (m : Message) → Stream xs m → Carries xs m
unfolding read
stream_back xs m s =
    let key = s.bytes.other.front in
    let bs = s.bytes.other.back in
    let whole : xs ≡ signature ++ (key ++ bs) = s.bytes.joins ∙ ap (λ l. l ++ s.bytes.back) s.bytes.one ∙ ap (λ l. signature ++ l) s.bytes.other.joins in
    ap (λ ys. over message_of (entries_of ys)) whole
    ∙ ap (over message_of) (entries_told key bs s.frames s.bytes.other.one s.right (ordered_allowed s.frames s.order) s.bytes.other.other)
    ∙ ap Ok (tells_back s.frames s.order s.right m s.tells)

pub by_grammar : (xs : List ℕ) (m : Message) → Carries xs m ↔ Stream xs m
by_grammar xs m = (stream_gives xs m, stream_back xs m)
