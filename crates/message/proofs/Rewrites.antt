-- Properties are written anew: their normal bytes are of the same grammar, octets, and as many.
use Rattle.std.proofs.Common.{◌≡◌, ℕ, ◌+◌, ◌-◌, ◌^◌, ◌<◌, ◌≤◌, Bool, true, false, cond, not, eqb, List, [], ◌∷◌, ◌++◌, length, replicate, Some, None, Option, sym, refl, ap, ◌∙◌, arith}
use Rattle.std.specs.List.{flat_map, AllByRecursion}
use Rattle.std.proofs.lemmas.List.{length-append, length-replicate}
use Rattle.std.proofs.ByRecursion.{All-append}
use Rattle.source.specs.Bytes.{Octets, le, val}
use Rattle.scan.proofs.Numbers.{length_le, val_le}
use Rattle.contents.proofs.LittleEndian.{val_lt}
use Rattle.index.specs.Keys.{Key, tag, numbered, named}
use Rattle.property.specs.declared.kinds.Kind.{Kind}
use Rattle.property.specs.declared.kinds.Kind.TheVariants.{Fixed, YesNo, String8, String16, Binary, Object}
use Rattle.property.specs.Fields.{padded, filled}
use Rattle.property.specs.Kinds.{Value, truth, bytes, value, width}
use Rattle.property.specs.Lists.{Property, list_limit, row_limit}
use Rattle.property.specs.Names.{first_named}
use Rattle.property.specs.Writing.{write_key, write_fixed, write_sized, write_values, write_property, after_key, write_properties, write_list, write_table}
use Rattle.message.specs.Grammar.{◌▷◌, these, any, number, filling, sizing, run, key_bytes, fixed_bytes, sized_bytes, values_bytes, property_bytes, list_bytes, table_bytes}
use Rattle.message.proofs.Pieces.{octets_le, octets_zeros, octets_left}

-- Bytes of P are written anew as w, of Q.
abbrev pub Turns : (P Q : List ℕ → Type 0) → List ℕ → Type 0
Turns P Q w = (bs : List ℕ) → Octets bs → P bs → Q w × Octets w × (length w ≡ length bs)

then_turns : {P Q R S : List ℕ → Type 0} (v w : List ℕ) → Turns P Q v → Turns R S w → Turns (P ▷ R) (Q ▷ S) (v ++ w)
then_turns v w f g bs o s =
    let (oa, ob) = octets_left s.front s.back (rw s.joins at o) in
    let (q, ov, lv) = f s.front oa s.one in
    let (q₁, ow, lw) = g s.back ob s.other in
    let long : length bs ≡ length s.front + length s.back = ap length s.joins ∙ length-append s.front s.back in
    (record { front = v; back = w; joins = refl; one = q; other = q₁ }, All-append _ v w ov ow, length-append v w ∙ omega arith)

these_turns : (s : List ℕ) → Turns (these s) (these s) s
these_turns s bs o e = (refl, rw e at o, sym (ap length e))

any_turns : (n : ℕ) → Turns (any n) (any n) (replicate n 0)
any_turns n bs o e = (length-replicate n 0, octets_zeros n, length-replicate n 0 ∙ sym e)

other_number : (w m n : ℕ) → n < 256 ^ w → Turns (number w m) (number w n) (le w n)
other_number w m n small bs o e = ((length_le w n, val_le w n small), octets_le w n, length_le w n ∙ sym e.0)

number_turns : (w n : ℕ) → Turns (number w n) (number w n) (le w n)
number_turns w n bs o e = other_number w n n (rw (e.0, e.1) at (val_lt bs o)) bs o e

filling_turns : (s : List ℕ) → Turns (filling s) (filling s) (filled s)
unfolding filled
filling_turns s = then_turns s _ (these_turns s) (any_turns (padded (length s) - length s))

sizing_turns : (s : List ℕ) → Turns (sizing s) (sizing s) (le 4 (length s) ++ filled s)
sizing_turns s = then_turns _ _ (number_turns 4 (length s)) (filling_turns s)

run_turns : {A : Type 0} (G : A → List ℕ → Type 0) (write : A → List ℕ) → ((a : A) → Turns (G a) (G a) (write a)) → (ls : List A) → Turns (run G ls) (run G ls) (flat_map write ls)
run_turns G write l [] = these_turns []
run_turns G write l (a ∷ ls) = then_turns (write a) (flat_map write ls) (l a) (run_turns G write l ls)

key_turns : (n : ℕ) → first_named ≤ n → n < 0x10000 → (k : Key) → Turns (key_bytes k) (key_bytes k) (write_key n k)
unfolding write_key
key_turns n low high (tag i) bs o (small, e) = let (q, ow, lw) = number_turns 2 i bs o e in ((small, q), ow, lw)
key_turns n low high (numbered g m) bs o (i, large, lg, w) =
    let (q, ow, lw) = then_turns _ _ (other_number 2 i n (omega arith)) (then_turns _ _ (these_turns g) (then_turns _ _ (number_turns 4 0) (number_turns 4 m))) bs o w in
    ((n, low, lg, q), ow, lw)
key_turns n low high (named g s) bs o (i, large, lg, ls, ts, w) =
    let (q, ow, lw) = then_turns _ _ (other_number 2 i n (omega arith)) (then_turns _ _ (these_turns g) (then_turns _ _ (number_turns 4 1) (sizing_turns s))) bs o w in
    ((n, low, lg, ls, ts, q), ow, lw)

-- A truth is two bytes, whatever they were.
truth_again : (b : Bool) → truth b ≡ value YesNo (le 2 (cond b 1 0))
truth_again true = rw (val_le 2 1 (omega arith))
truth_again false = rw (val_le 2 0 (omega arith))

truth_turns : (b : Bool) (s : List ℕ) → length s ≡ 2 → Turns (filling s) (fixed_bytes YesNo 2 (truth b)) (filled (le 2 (cond b 1 0)))
unfolding filled
truth_turns b s l bs o w =
    let u = le 2 (cond b 1 0) in
    let lu : length u ≡ 2 = length_le 2 (cond b 1 0) in
    let tail : length w.back ≡ padded (length s) - length s = w.other in
    let same : w.front ≡ s = w.one in
    let lf : length w.front ≡ 2 = ap length same ∙ l in
    let tail₂ : length w.back ≡ padded 2 - 2 = rw l at tail in
    let long : length bs ≡ length w.front + length w.back = ap length w.joins ∙ length-append w.front w.back in
    let zeros = replicate (padded (length u) - length u) 0 in
    let lz : length zeros ≡ padded (length u) - length u = length-replicate (padded (length u) - length u) 0 in
    let lz₂ : length zeros ≡ padded 2 - 2 = lz ∙ ap (λ n. padded n - n) lu in (
      (u, lu, truth_again b, record { front = u; back = zeros; joins = refl; one = refl; other = lz }),
      All-append _ u zeros (octets_le 2 _) (octets_zeros _),
      length-append u zeros ∙ omega arith,
    )

fixed_turns : (k : Kind) (w : ℕ) → width k ≡ Some w → (v : Value) → Turns (fixed_bytes k w v) (fixed_bytes k w v) (write_fixed v)
fixed_turns (Fixed n) w e v bs o (s, ls, is, fl) = let (q, ow, lw) = filling_turns s bs o fl in rw is ((s, ls, refl, q), ow, lw)
fixed_turns YesNo w e v bs o (s, ls, is, fl) = let two : w ≡ 2 = cc in let l : length s ≡ 2 = ls ∙ two in rw (is, two) (truth_turns (not (eqb (val s) 0)) s l bs o fl)
fixed_turns String8 w e v bs o g = absurd (let z : ◌≡◌ {A = ℕ} 0 1 = cc in omega arith)
fixed_turns String16 w e v bs o g = absurd (let z : ◌≡◌ {A = ℕ} 0 1 = cc in omega arith)
fixed_turns Binary w e v bs o g = absurd (let z : ◌≡◌ {A = ℕ} 0 1 = cc in omega arith)
fixed_turns Object w e v bs o g = absurd (let z : ◌≡◌ {A = ℕ} 0 1 = cc in omega arith)

-- A kind without a width keeps its bytes.
sized_value : (k : Kind) → width k ≡ None → (s : List ℕ) → value k s ≡ bytes s
sized_value (Fixed n) e s = refl
sized_value YesNo e s = absurd (let z : ◌≡◌ {A = ℕ} 0 1 = cc in omega arith)
sized_value String8 e s = refl
sized_value String16 e s = refl
sized_value Binary e s = refl
sized_value Object e s = refl

sized_turns : (k : Kind) → width k ≡ None → (v : Value) → Turns (sized_bytes k v) (sized_bytes k v) (write_sized v)
sized_turns k e v bs o (s, ok, is, w) =
    let (q, ow, lw) = sizing_turns s bs o w in
    let same : v ≡ bytes s = is ∙ sized_value k e s in
    let again : bytes s ≡ value k s = sym (sized_value k e s) in
    rw same ((s, ok, again, q), ow, lw)

values_turns : (o : Option ℕ) (k : Kind) (several : Bool) → width k ≡ o → (vs : List Value) → Turns (values_bytes o k several vs) (values_bytes o k several vs) (write_values o several vs)
unfolding write_values
values_turns (Some w) k false e vs bs o (one, g) = let (q, ow, lw) = run_turns _ _ (fixed_turns k w e) vs bs o g in ((one, q), ow, lw)
values_turns (Some w) k true e vs bs o g = then_turns _ _ (number_turns 4 (length vs)) (run_turns _ _ (fixed_turns k w e) vs) bs o g
values_turns None k several e vs bs o (many, g) = let (q, ow, lw) = then_turns _ _ (number_turns 4 (length vs)) (run_turns _ _ (sized_turns k e) vs) bs o g in ((many, q), ow, lw)

pub property_turns : (n : ℕ) → first_named ≤ n → n < 0x10000 → (p : Property) → Turns (property_bytes p) (property_bytes p) (write_property n p)
unfolding write_property
property_turns n low high p bs o (t, is, g) =
    let (q, ow, lw) = then_turns _ _ (number_turns 2 p.type) (then_turns _ _ (key_turns n low high p.key) (values_turns (width t.kind) t.kind t.several refl p.values)) bs o g in
    rw is ((t, refl, q), ow, lw)

step : (k : Key) (n : ℕ) → (n ≤ after_key k n) × (after_key k n ≤ n + 1)
step (tag i) n = omega arith
step (numbered g m) n = omega arith
step (named g s) n = omega arith

properties_turns : (n : ℕ) (ps : List Property) → first_named ≤ n → n + length ps ≤ 0x10000 → Turns (run property_bytes ps) (run property_bytes ps) (write_properties n ps)
properties_turns n [] low high = these_turns []
properties_turns n (p ∷ ps) low high =
    let s = step p.key n in
    then_turns _ _ (property_turns n low (omega arith) p) (properties_turns (after_key p.key n) ps (omega arith) (omega arith))

pub list_turns : (ps : List Property) → Turns (list_bytes ps) (list_bytes ps) (write_list ps)
unfolding write_list
list_turns ps bs o (few, g) =
    let (q, ow, lw) = then_turns _ _ (number_turns 4 (length ps)) (properties_turns first_named ps (omega arith) (omega arith)) bs o g in
    ((few, q), ow, lw)

pub table_turns : (rs : List (List Property)) → Turns (table_bytes rs) (table_bytes rs) (write_table rs)
unfolding write_table
table_turns rs bs o (few, g) =
    let (q, ow, lw) = then_turns _ _ (number_turns 4 (length rs)) (run_turns list_bytes write_list list_turns rs) bs o g in
    ((few, q), ow, lw)

-- What stands in octets, one behind another.
abbrev pub ToldBy : {A : Type 0} → (A → List ℕ → Type 0) → A → Type 0
ToldBy G a = (bs : List ℕ) × Octets bs × G a bs

pub run_all : {A : Type 0} (G : A → List ℕ → Type 0) (ls : List A) (bs : List ℕ) → Octets bs → run G ls bs → AllByRecursion (ToldBy G) ls
run_all G [] bs o g = tt
run_all G (a ∷ ls) bs o g =
    let (oa, ob) = octets_left g.front g.back (rw g.joins at o) in
    ((g.front, oa, g.one), run_all G ls g.back ob g.other)

pub all_run : {A : Type 0} (G : A → List ℕ → Type 0) (ls : List A) → AllByRecursion (ToldBy G) ls → (bs : List ℕ) × Octets bs × run G ls bs
all_run G [] all = ([], tt, refl)
all_run G (a ∷ ls) ((b, ob, g), all) =
    let (bs, o, w) = all_run G ls all in
    (b ++ bs, All-append _ b bs ob o, record { front = b; back = bs; joins = refl; one = g; other = w })

counted : {A : Type 0} (G : A → List ℕ → Type 0) (ls : List A) → length ls < 256 ^ 4 → AllByRecursion (ToldBy G) ls → (bs : List ℕ) × Octets bs × (number 4 (length ls) ▷ run G ls) bs
counted G ls few all =
    let (bs, o, w) = all_run G ls all in
    (le 4 (length ls) ++ bs, All-append _ (le 4 (length ls)) bs (octets_le 4 _) o, record { front = le 4 (length ls); back = bs; joins = refl; one = (length_le 4 _, val_le 4 _ few); other = w })

pub list_from : (ps : List Property) → length ps ≤ list_limit → AllByRecursion (ToldBy property_bytes) ps → ToldBy list_bytes ps
list_from ps few all = let (bs, o, w) = counted property_bytes ps (omega arith) all in (bs, o, (few, w))

pub table_from : (rs : List (List Property)) → length rs ≤ row_limit → AllByRecursion (ToldBy list_bytes) rs → ToldBy table_bytes rs
table_from rs few all = let (bs, o, w) = counted list_bytes rs (omega arith) all in (bs, o, (few, w))

pub list_parts : (ps : List Property) → ToldBy list_bytes ps → AllByRecursion (ToldBy property_bytes) ps × (length ps ≤ list_limit)
list_parts ps (bs, o, (few, w)) = let (oa, ob) = octets_left w.front w.back (rw w.joins at o) in (run_all property_bytes ps w.back ob w.other, few)

pub table_parts : (rs : List (List Property)) → ToldBy table_bytes rs → AllByRecursion (ToldBy list_bytes) rs × (length rs ≤ row_limit)
table_parts rs (bs, o, (few, w)) = let (oa, ob) = octets_left w.front w.back (rw w.joins at o) in (run_all list_bytes rs w.back ob w.other, few)
