-- A generated script is made lane by lane, and is one of bytes.
use Rattle.std.proofs.Common.{◌≡◌, inl, inr, ◌<◌, ◌≤◌, ◌+◌, ◌*◌, ◌-◌, ◌/◌, ◌%◌, ◌^◌, ◌==◌, ℕ, suc, zero, pos, FitsSigned, Bool, true, false, cond, List, [], ◌∷◌, ◌++◌, length, map, Some, refl, sym, ap, ◌∙◌, arith, add-one, append-nil, zero-add, length-append}
use Rattle.std.specs.Prelude.{codes, filter, nat_lt}
use Rattle.std.specs.Int.{w32}
use Rattle.std.specs.Fmt.{decimal}
use Rattle.std.specs.List.{AllByRecursion, flat_map, range_with_len}
use Rattle.std.proofs.lemmas.Int.{ints}
use Rattle.std.proofs.lemmas.Bool.{lt-ltb, eq-eqb}
use Rattle.std.proofs.lemmas.Bool.Decides.{eqb_tells}
use Rattle.std.proofs.lemmas.Fmt.{decimal_by_steps, length-decimal-le}
use Rattle.std.proofs.lemmas.List.Elements.{filter-append}
use Rattle.std.proofs.lemmas.List.FromFn.{length-map-range_with_len, map-range_with_len_more}
use Rattle.std.proofs.lemmas.Grind.{flat_map-append}
use Rattle.spg_base.specs.Text.{row_text, point_text}
use Rattle.spg_radix.specs.Texts.{is_bytes, is_text}
use Rattle.spg_radix.specs.TextLemmas.{bytes_append, text_from}
use Rattle.spg_script.specs.declared.key_form.KeyForm.{KeyForm}
use Rattle.spg_script.specs.declared.key_form.KeyForm.TheVariants as form
use Rattle.spg_script.specs.declared.class_name.ClassName.{ClassName}
use Rattle.spg_script.specs.declared.class_name.ClassName.TheVariants.{Quad, Kd, Radix, Range}
use Rattle.spg_script.specs.declared.command.Command.{Command}
use Rattle.spg_script.specs.declared.command.Command.TheVariants.{Insert, Delete, Find, Vacuum}
use Rattle.spg_script.specs.declared.any_query.AnyQuery.{AnyQuery}
use Rattle.spg_script.specs.declared.any_query.AnyQuery.TheVariants.{All}
use Rattle.spg_script.specs.Blocks.{Part, alone_part, block_part}
use Rattle.spg_script.specs.Quoted.{is_plain, hex_digit, byte_text, quoted}
use Rattle.spg_script.specs.Spelling.{class_text, IsRow, IsPoint}
use Rattle.spg_script.specs.Line.{keys_of}
use Rattle.spg_script.specs.Laws.{IsAnyKey, IsCommand}
use Rattle.spg_script.specs.Speech.{any_key_text}
use Rattle.spg_script.specs.Script.{Saying, block_ends, says, lane_sayings, sayings, saying_text, command_text, printed, IsLaneCommand, IsTidy, IsWritten}
use Rattle.spg_script.specs.Generated.{load_class, load_x, load_y, three_digits, address, load_key, load_row, changes, numbers_of, load_lane, watching_lane, load_lanes, first_query, second_query, load_parts}
use Rattle.spg_script.proofs.Tidy.{AreBytes, are_bytes, bytes_are}
use Rattle.spg_script.proofs.Scripts.{exact}

-- ---- a lane grows by what is done with one number

pub range_more : (a n : ℕ) → range_with_len a (n + 1) ≡ range_with_len a n ++ (a + n) ∷ []
range_more a n = rw (add-one n) (go a n)
  where
    go : (a n : ℕ) → range_with_len a (suc n) ≡ range_with_len a n ++ (a + n) ∷ []
    go a zero = ap (λ x. x ∷ []) (omega arith)
    go a (suc n) = ap (λ l. a ∷ l) (go (a + 1) n) ∙ ap (λ x. a ∷ (range_with_len (a + 1) n ++ x ∷ [])) (omega arith)

numbers_more : (i lanes l : ℕ) → numbers_of (i + 1) lanes l ≡ numbers_of i lanes l ++ filter (λ n. n % lanes == l) (i ∷ [])
numbers_more i lanes l =
    ap (filter (λ n. n % lanes == l)) (range_more 0 i ∙ ap (λ x. range_with_len 0 i ++ x ∷ []) (omega arith)) ∙ filter-append (λ n. n % lanes == l) (range_with_len 0 i) (i ∷ [])

lane_more : (class : ClassName) (i seed lanes l : ℕ) → load_lane class (i + 1) seed lanes l ≡ load_lane class i seed lanes l ++ flat_map (changes class seed) (filter (λ n. n % lanes == l) (i ∷ []))
unfolding load_lane
lane_more class i seed lanes l = ap (flat_map (changes class seed)) (numbers_more i lanes l) ∙ flat_map-append (changes class seed) (numbers_of i lanes l) (filter (λ n. n % lanes == l) (i ∷ []))

pub lane_none : (class : ClassName) (seed lanes l : ℕ) → load_lane class 0 seed lanes l ≡ []
unfolding load_lane
lane_none class seed lanes l = refl

pub lane_with : (class : ClassName) (i seed lanes l : ℕ) → i % lanes ≡ l → load_lane class (i + 1) seed lanes l ≡ load_lane class i seed lanes l ++ changes class seed i
lane_with class i seed lanes l is = lane_more class i seed lanes l ∙ rw (eq-eqb (i % lanes) l is) (ap (λ x. load_lane class i seed lanes l ++ x) (append-nil (changes class seed i)))

pub lane_without : (class : ClassName) (i seed lanes l : ℕ) → (i % lanes ≡ l → ⊥) → load_lane class (i + 1) seed lanes l ≡ load_lane class i seed lanes l
lane_without class i seed lanes l other = lane_more class i seed lanes l ∙ elim (eqb_tells (i % lanes) l) [ inl same ↦ absurd (other same.1) | inr not_so ↦ rw not_so.0 (append-nil (load_lane class i seed lanes l)) ]

-- ---- the lanes, and the parts

pub lanes_more : (class : ClassName) (count seed lanes l : ℕ) (made longer : List (List Command)) (lane : List Command) → made ≡ map (load_lane class count seed lanes) (range_with_len 0 l) → lane ≡ load_lane class count seed lanes l → longer ≡ made ++ lane ∷ []
    → longer ≡ map (load_lane class count seed lanes) (range_with_len 0 (l + 1))
lanes_more class count seed lanes l made longer lane so_far one pushed =
    pushed ∙ ap (λ (m : List (List Command)). m ++ lane ∷ []) so_far ∙ ap (λ (x : List Command). map (load_lane class count seed lanes) (range_with_len 0 l) ++ x ∷ []) one ∙ sym (map-range_with_len_more (load_lane class count seed lanes) 0 l l (zero-add l))

pub lanes_all : (class : ClassName) (count seed lanes l : ℕ) (made longer : List (List Command)) (lane : List Command) → l ≡ lanes → made ≡ map (load_lane class count seed lanes) (range_with_len 0 l) → lane ≡ watching_lane → longer ≡ made ++ lane ∷ []
    → longer ≡ load_lanes class count seed lanes
unfolding load_lanes
lanes_all class count seed lanes l made longer lane all so_far watches pushed =
    pushed ∙ ap (λ (m : List (List Command)). m ++ lane ∷ []) (so_far ∙ ap (λ n. map (load_lane class count seed lanes) (range_with_len 0 n)) all) ∙ ap (λ (x : List Command). map (load_lane class count seed lanes) (range_with_len 0 lanes) ++ x ∷ []) watches

pub parts_are : (class : ClassName) (count seed lanes : ℕ) (made : List (List Command)) (first second : AnyQuery) (load a b d e : Part) → made ≡ load_lanes class count seed lanes → first ≡ first_query class → second ≡ second_query class
    → load ≡ block_part made → a ≡ alone_part Vacuum → b ≡ alone_part (Find All) → d ≡ alone_part (Find first) → e ≡ alone_part (Find second) → load ∷ a ∷ b ∷ d ∷ e ∷ [] ≡ load_parts class count seed lanes
parts_are class count seed lanes made first second load a b d e lanes_are first_is second_is load_is a_is b_is d_is e_is =
    let load_all : load ≡ block_part (load_lanes class count seed lanes) = load_is ∙ ap block_part lanes_are in
    let d_all : d ≡ alone_part (Find (first_query class)) = d_is ∙ ap (λ (q : AnyQuery). alone_part (Find q)) first_is in
    let e_all : e ≡ alone_part (Find (second_query class)) = e_is ∙ ap (λ (q : AnyQuery). alone_part (Find q)) second_is in
    rw (load_all, a_is, b_is, d_all, e_all) refl

-- ---- lines of bytes, of a bounded length

pub record IsShort (most : ℕ) (text : List ℕ) : Type 0 where
  pub bytes : is_bytes text ≡ true
  pub short : length text ≤ most

shorts : (a b c : ℕ) (s t : List ℕ) → IsShort a s → IsShort b t → a + b ≤ c → IsShort c (s ++ t)
shorts a b c s t p q fits = record { bytes = bytes_append s t p.bytes q.bytes; short = omega (arith, length-append s t, p.short, q.short, fits) }

decimal_bytes : (n : ℕ) → n < 2 ^ 64 → is_bytes (decimal n) ≡ true
decimal_bytes = decimal_by_steps (λ n ds. is_bytes ds ≡ true) one more
  where
    one : (m : ℕ) → m < 10 → is_bytes ((48 + m) ∷ []) ≡ true
    one m low = rw (lt-ltb (48 + m) 256 (omega arith)) refl

    more : (m : ℕ) (ds : List ℕ) → 10 ≤ m → is_bytes ds ≡ true → is_bytes (ds ++ (48 + m % 10) ∷ []) ≡ true
    more m ds high front = bytes_append ds ((48 + m % 10) ∷ []) front (one (m % 10) (omega arith))

decimal_short : (k n : ℕ) → 0 < k → n < 10 ^ k → n < 2 ^ 64 → IsShort k (decimal n)
decimal_short k n some fits small = record { bytes = decimal_bytes n small; short = length-decimal-le k n some fits small }

row_short : (i : ℕ) → i < 200000 → IsShort 9 (row_text (load_row i))
row_short i few =
    let tail : IsShort 4 (46 ∷ decimal (i % 100 + 1)) = shorts 1 3 4 (46 ∷ []) (decimal (i % 100 + 1)) (record { bytes = refl; short = omega arith }) (decimal_short 3 (i % 100 + 1) (omega arith) (omega arith) (omega arith)) (omega arith) in
    shorts 4 4 9 (decimal (i / 100)) (46 ∷ decimal (i % 100 + 1)) (decimal_short 4 (i / 100) (omega arith) (omega arith) (omega arith)) tail (omega arith)

-- ---- keys

pub byte_hex : (n : ℕ) → n < 16 → hex_digit n < 256
byte_hex n low = go (nat_lt n 10)
  where
    go : (t : Bool) → cond t (48 + n) (87 + n) < 256
    go true = omega arith
    go false = omega arith

byte_short : (b : ℕ) → b < 256 → IsShort 4 (byte_text b)
byte_short b small = go (is_plain b)
  where
    escape : is_bytes (92 ∷ 120 ∷ hex_digit (b / 16) ∷ hex_digit (b % 16) ∷ []) ≡ true
    escape = rw (lt-ltb (hex_digit (b / 16)) 256 (byte_hex (b / 16) (omega arith)), lt-ltb (hex_digit (b % 16)) 256 (byte_hex (b % 16) (omega arith))) refl

    go : (t : Bool) → IsShort 4 (cond t (b ∷ []) (92 ∷ 120 ∷ hex_digit (b / 16) ∷ hex_digit (b % 16) ∷ []))
    go true = record { bytes = rw (lt-ltb b 256 small) refl; short = omega arith }
    go false = record { bytes = escape; short = omega arith }

spelled_short : (text : List ℕ) → AreBytes text → IsShort (4 * length text) (flat_map byte_text text)
spelled_short [] each = record { bytes = refl; short = omega arith }
spelled_short (b ∷ text) each = shorts 4 (4 * length text) (4 * suc (length text)) (byte_text b) (flat_map byte_text text) (byte_short b each.0) (spelled_short text each.1) (omega arith)

quoted_short : (k : ℕ) (text : List ℕ) → AreBytes text → 4 * length text + 2 ≤ k → IsShort k (quoted text)
quoted_short k text each fits =
    let tail : IsShort (4 * length text + 1) (flat_map byte_text text ++ 34 ∷ []) = shorts (4 * length text) 1 (4 * length text + 1) (flat_map byte_text text) (34 ∷ []) (spelled_short text each) (record { bytes = refl; short = omega arith }) (omega arith) in
    shorts 1 (4 * length text + 1) k (34 ∷ []) (flat_map byte_text text ++ 34 ∷ []) (record { bytes = refl; short = omega arith }) tail (omega (arith, fits))

below_digits : (n : ℕ) → n < 1000 → AreBytes (three_digits n)
below_digits n small = (omega arith, (omega arith, (omega arith, tt)))

each_both : {A : Type 0} (P : A → Type 0) (xs ys : List A) → AllByRecursion P xs → AllByRecursion P ys → AllByRecursion P (xs ++ ys)
each_both P [] ys p q = q
each_both P (x ∷ xs) ys p q = (p.0, each_both P xs ys p.1 q)

address_bytes : (x y : ℕ) → x < 1000 → y < 1000 → AreBytes (address x y)
address_bytes x y a b =
    each_both (λ b. b < 256) (codes "street ") (three_digits x ++ (codes " house " ++ three_digits y)) (are_bytes (codes "street ") refl)
    (each_both (λ b. b < 256) (three_digits x) (codes " house " ++ three_digits y) (below_digits x a)
    (each_both (λ b. b < 256) (codes " house ") (three_digits y) (are_bytes (codes " house ") refl) (below_digits y b)))

-- a command's key is one of the class, and its text is short
record IsShortKey (class : ClassName) (seed i : ℕ) : Type 0 where
  key : IsAnyKey (keys_of (load_class class)) (load_key class seed i)
  text : IsShort 82 (any_key_text (load_key class seed i))

point_short : (x y : ℕ) → x < 1000 → y < 1000 → IsShort 82 (point_text (record { x = pos x; y = pos y }))
point_short x y a b =
    let tail : IsShort 4 (44 ∷ decimal y) = shorts 1 3 4 (44 ∷ []) (decimal y) (record { bytes = refl; short = omega arith }) (decimal_short 3 y (omega arith) (omega arith) (omega arith)) (omega arith) in
    shorts 3 4 82 (decimal x) (44 ∷ decimal y) (decimal_short 3 x (omega arith) (omega arith) (omega arith)) tail (omega arith)

point_is : (x y : ℕ) → x < 1000 → y < 1000 → IsPoint (record { x = pos x; y = pos y })
point_is x y a b = record { x = record { sfits = omega (arith, ints) }; y = record { sfits = omega (arith, ints) } }

text_is : (x y : ℕ) → x < 1000 → y < 1000 → is_text (address x y) ≡ true
text_is x y a b = text_from (address x y) (bytes_are (address x y) (address_bytes x y a b)) (omega arith)

text_short : (x y : ℕ) → x < 1000 → y < 1000 → IsShort 82 (quoted (address x y))
text_short x y a b = quoted_short 82 (address x y) (address_bytes x y a b) (omega arith)

key_short : (class : ClassName) (seed i : ℕ) → IsShortKey class seed i
key_short Quad seed i = record { key = (refl, point_is (load_x seed i) (load_y seed i) (omega arith) (omega arith)); text = point_short (load_x seed i) (load_y seed i) (omega arith) (omega arith) }
key_short Kd seed i = record { key = (refl, point_is (load_x seed i) (load_y seed i) (omega arith) (omega arith)); text = point_short (load_x seed i) (load_y seed i) (omega arith) (omega arith) }
key_short Radix seed i = record { key = (refl, text_is (load_x seed i) (load_y seed i) (omega arith) (omega arith)); text = text_short (load_x seed i) (load_y seed i) (omega arith) (omega arith) }
key_short Range seed i = record { key = (refl, tt); text = record { bytes = refl; short = omega arith } }

-- ---- commands

-- a command may stand in a lane, is one of the class, and its line is short
record IsFit (keys : KeyForm) (c : Command) : Type 0 where
  lane : IsLaneCommand c
  command : IsCommand keys c
  text : IsShort 100 (command_text c)

row_is : (i : ℕ) → i < 200000 → IsRow (load_row i)
row_is i few = record { block = omega arith; positive = omega arith; offset = omega arith }

insert_fits : (class : ClassName) (seed i : ℕ) → i < 200000 → IsFit (keys_of (load_class class)) (Insert (load_row i) (Some (load_key class seed i)))
insert_fits class seed i few =
    let key = key_short class seed i in
    let tail : IsShort 83 (32 ∷ any_key_text (load_key class seed i)) = shorts 1 82 83 (32 ∷ []) (any_key_text (load_key class seed i)) (record { bytes = refl; short = omega arith }) key.text (omega arith) in
    let back : IsShort 92 (row_text (load_row i) ++ 32 ∷ any_key_text (load_key class seed i)) = shorts 9 83 92 (row_text (load_row i)) (32 ∷ any_key_text (load_key class seed i)) (row_short i few) tail (omega arith) in
    record {
      lane = tt;
      command = (row_is i few, key.key);
      text = shorts 7 92 100 (codes "insert ") (row_text (load_row i) ++ 32 ∷ any_key_text (load_key class seed i)) (record { bytes = refl; short = omega arith }) back (omega arith);
    }

delete_fits : (keys : KeyForm) (i : ℕ) → i < 200000 → IsFit keys (Delete (load_row i))
delete_fits keys i few = record {
  lane = tt;
  command = row_is i few;
  text = shorts 7 9 100 (codes "delete ") (row_text (load_row i)) (record { bytes = refl; short = omega arith }) (row_short i few) (omega arith);
}

changes_fit : (class : ClassName) (seed i : ℕ) → i < 200000 → AllByRecursion (IsFit (keys_of (load_class class))) (changes class seed i)
changes_fit class seed i few = (insert_fits class seed i few, go (i % 3 == 2))
  where
    go : (t : Bool) → AllByRecursion (IsFit (keys_of (load_class class))) (cond t (Delete (load_row i) ∷ []) [])
    go true = (delete_fits (keys_of (load_class class)) i few, tt)
    go false = tt

changes_few : (class : ClassName) (seed i : ℕ) → length (changes class seed i) ≤ 2
changes_few class seed i = go (i % 3 == 2)
  where
    go : (t : Bool) → length (Insert (load_row i) (Some (load_key class seed i)) ∷ cond t (Delete (load_row i) ∷ []) []) ≤ 2
    go true = omega arith
    go false = omega arith

-- ---- lanes

numbers_below : (p : ℕ → Bool) (a n most : ℕ) → a + n ≤ most → AllByRecursion (λ i. i < most) (filter p (range_with_len a n))
numbers_below p a zero most fits = tt
numbers_below p a (suc n) most fits = go (p a) (numbers_below p (a + 1) n most (omega (arith, fits)))
  where
    go : (t : Bool) → AllByRecursion (λ i. i < most) (filter p (range_with_len (a + 1) n)) → AllByRecursion (λ i. i < most) (cond t (a ∷ filter p (range_with_len (a + 1) n)) (filter p (range_with_len (a + 1) n)))
    go true rest = (omega (arith, fits), rest)
    go false rest = rest

numbers_few : (p : ℕ → Bool) (a n : ℕ) → length (filter p (range_with_len a n)) ≤ n
numbers_few p a zero = omega arith
numbers_few p a (suc n) = go (p a) (numbers_few p (a + 1) n)
  where
    go : (t : Bool) → length (filter p (range_with_len (a + 1) n)) ≤ n → length (cond t (a ∷ filter p (range_with_len (a + 1) n)) (filter p (range_with_len (a + 1) n))) ≤ suc n
    go true rest = omega (arith, rest)
    go false rest = omega (arith, rest)

all_fit : (class : ClassName) (seed : ℕ) (is : List ℕ) → AllByRecursion (λ i. i < 200000) is → AllByRecursion (IsFit (keys_of (load_class class))) (flat_map (changes class seed) is)
all_fit class seed [] below = tt
all_fit class seed (i ∷ is) below = each_both (IsFit (keys_of (load_class class))) (changes class seed i) (flat_map (changes class seed) is) (changes_fit class seed i below.0) (all_fit class seed is below.1)

all_few : (class : ClassName) (seed : ℕ) (is : List ℕ) → length (flat_map (changes class seed) is) ≤ 2 * length is
all_few class seed [] = omega arith
all_few class seed (i ∷ is) = omega (arith, length-append (changes class seed i) (flat_map (changes class seed) is), changes_few class seed i, all_few class seed is)

-- each command of a lane is fit, and it has at most 400,000
record IsFitLane (keys : KeyForm) (lane : List Command) : Type 0 where
  each : AllByRecursion (IsFit keys) lane
  few : length lane ≤ 400000

lane_fits : (class : ClassName) (count seed lanes l : ℕ) → count ≤ 200000 → IsFitLane (keys_of (load_class class)) (load_lane class count seed lanes l)
unfolding load_lane
lane_fits class count seed lanes l fits = record {
  each = all_fit class seed (numbers_of count lanes l) (numbers_below (λ i. i % lanes == l) 0 count 200000 (omega (arith, fits)));
  few = omega (arith, all_few class seed (numbers_of count lanes l), numbers_few (λ i. i % lanes == l) 0 count, fits);
}

lane_list : (class : ClassName) (count seed lanes : ℕ) (ls : List ℕ) → count ≤ 200000 → AllByRecursion (IsFitLane (keys_of (load_class class))) (map (load_lane class count seed lanes) ls)
lane_list class count seed lanes [] fits = tt
lane_list class count seed lanes (l ∷ ls) fits = (lane_fits class count seed lanes l fits, lane_list class count seed lanes ls fits)

plain_fits : (keys : KeyForm) (c : Command) → IsLaneCommand c → IsCommand keys c → is_bytes (command_text c) ≡ true → length (command_text c) ≤ 100 → IsFit keys c
plain_fits keys c lane command bytes short = record { lane = lane; command = command; text = record { bytes = bytes; short = short } }

watching_fits : (keys : KeyForm) → IsFitLane keys watching_lane
watching_fits keys =
    let vacuum = plain_fits keys Vacuum tt tt refl (omega arith) in
    let find = plain_fits keys (Find All) tt tt refl (omega arith) in
    record { each = (vacuum, (find, (vacuum, (find, tt)))); few = omega arith }

lanes_fit : (class : ClassName) (count seed lanes : ℕ) → count ≤ 200000 → AllByRecursion (IsFitLane (keys_of (load_class class))) (load_lanes class count seed lanes)
unfolding load_lanes
lanes_fit class count seed lanes fits =
    each_both (IsFitLane (keys_of (load_class class))) (map (load_lane class count seed lanes) (range_with_len 0 lanes)) (watching_lane ∷ []) (lane_list class count seed lanes (range_with_len 0 lanes) fits) (watching_fits (keys_of (load_class class)), tt)

lanes_count : (class : ClassName) (count seed lanes : ℕ) → length (load_lanes class count seed lanes) ≡ lanes + 1
unfolding load_lanes
lanes_count class count seed lanes =
    length-append (map (load_lane class count seed lanes) (range_with_len 0 lanes)) (watching_lane ∷ []) ∙ ap (λ n. n + 1) (length-map-range_with_len (load_lane class count seed lanes) 0 lanes)

-- ---- what is said of fit lanes

weaker : {A : Type 0} (P Q : A → Type 0) (xs : List A) → ((x : A) → P x → Q x) → AllByRecursion P xs → AllByRecursion Q xs
weaker P Q [] f each = tt
weaker P Q (x ∷ xs) f each = (f x each.0, weaker P Q xs f each.1)

abbrev IsShortSaying : Saying → Type 0
IsShortSaying s = IsShort 100 (saying_text s)

lane_short : (keys : KeyForm) (lane : List Command) → AllByRecursion (IsFit keys) lane → AllByRecursion IsShortSaying (map says lane)
lane_short keys [] each = tt
lane_short keys (c ∷ lane) each = (each.0.text, lane_short keys lane each.1)

lanes_short : (keys : KeyForm) (lanes : List (List Command)) → AllByRecursion (IsFitLane keys) lanes → AllByRecursion IsShortSaying (lane_sayings lanes)
lanes_short keys [] each = tt
lanes_short keys (lane ∷ lanes) each =
    (record { bytes = refl; short = omega arith }, each_both IsShortSaying (map says lane) (lane_sayings lanes) (lane_short keys lane each.0.each) (lanes_short keys lanes each.1))

said_count : (lane : List Command) → length (map says lane) ≡ length lane
said_count [] = refl
said_count (c ∷ lane) = ap suc (said_count lane)

lanes_few : (keys : KeyForm) (lanes : List (List Command)) → AllByRecursion (IsFitLane keys) lanes → length (lane_sayings lanes) ≤ 400001 * length lanes
lanes_few keys [] each = omega arith
lanes_few keys (lane ∷ lanes) each = omega (arith, length-append (map says lane) (lane_sayings lanes), said_count lane, each.0.few, lanes_few keys lanes each.1)

lines_short : (ss : List Saying) → AllByRecursion IsShortSaying ss → IsShort (101 * length ss) (flat_map (λ line. line ++ 10 ∷ []) (map saying_text ss))
lines_short [] each = record { bytes = refl; short = omega arith }
lines_short (s ∷ ss) each =
    let line : IsShort 101 (saying_text s ++ 10 ∷ []) = shorts 100 1 101 (saying_text s) (10 ∷ []) each.0 (record { bytes = refl; short = omega arith }) (omega arith) in
    shorts 101 (101 * length ss) (101 * suc (length ss)) (saying_text s ++ 10 ∷ []) (flat_map (λ l. l ++ 10 ∷ []) (map saying_text ss)) line (lines_short ss each.1) (omega arith)

-- ---- the whole script

left_is : FitsSigned w32 (pos 100)
left_is = record { sfits = omega (arith, ints) }

below_is : FitsSigned w32 (pos 500)
below_is = record { sfits = omega (arith, ints) }

side_short : (word : List ℕ) (n : ℕ) → IsShort 6 word → n < 1000 → IsShort 100 (codes "find " ++ ((codes "where " ++ (word ++ decimal n)) ++ []))
side_short word n is small =
    let cond : IsShort 9 (word ++ decimal n) = shorts 6 3 9 word (decimal n) is (decimal_short 3 n (omega arith) (omega arith) (omega arith)) (omega arith) in
    let conds : IsShort 15 (codes "where " ++ (word ++ decimal n)) = shorts 6 9 15 (codes "where ") (word ++ decimal n) (record { bytes = refl; short = omega arith }) cond (omega arith) in
    let query : IsShort 15 ((codes "where " ++ (word ++ decimal n)) ++ []) = shorts 15 0 15 (codes "where " ++ (word ++ decimal n)) [] conds (record { bytes = refl; short = omega arith }) (omega arith) in
    shorts 5 15 100 (codes "find ") ((codes "where " ++ (word ++ decimal n)) ++ []) (record { bytes = refl; short = omega arith }) query (omega arith)

left_fits : IsFit form.Point (Find (first_query Quad))
left_fits = record { lane = tt; command = (((refl, left_is), tt), omega arith, omega arith); text = side_short (codes "left ") 100 (record { bytes = refl; short = omega arith }) (omega arith) }

below_fits : IsFit form.Point (Find (second_query Quad))
below_fits = record { lane = tt; command = (((refl, below_is), tt), omega arith, omega arith); text = side_short (codes "below ") 500 (record { bytes = refl; short = omega arith }) (omega arith) }

first_fits : (class : ClassName) → IsFit (keys_of (load_class class)) (Find (first_query class))
first_fits Quad = left_fits
first_fits Kd = left_fits
first_fits Radix = plain_fits form.Text (Find (first_query Radix)) tt (((refl, refl), tt), omega arith, omega arith) refl (omega arith)
first_fits Range = plain_fits form.Range (Find All) tt tt refl (omega arith)

second_fits : (class : ClassName) → IsFit (keys_of (load_class class)) (Find (second_query class))
second_fits Quad = below_fits
second_fits Kd = below_fits
second_fits Radix = plain_fits form.Text (Find (second_query Radix)) tt (((refl, refl), tt), omega arith, omega arith) refl (omega arith)
second_fits Range = plain_fits form.Range (Find All) tt tt refl (omega arith)

-- a command outside lanes
alone_short : (keys : KeyForm) (c : Command) (ss : List Saying) → IsFit keys c → AllByRecursion IsShortSaying ss → AllByRecursion IsShortSaying (says c ∷ ss)
alone_short keys c ss fits rest = (fits.text, rest)

class_short : (class : ClassName) → IsShort 101 (class_text (load_class class) ++ 10 ∷ [])
class_short Quad = record { bytes = refl; short = omega arith }
class_short Kd = record { bytes = refl; short = omega arith }
class_short Radix = record { bytes = refl; short = omega arith }
class_short Range = record { bytes = refl; short = omega arith }

module _ (class : ClassName) (count seed lanes : ℕ) (fits : count ≤ 200000) (few : lanes ≤ 16) where
  all_lanes : List (List Command)
  all_lanes = load_lanes class count seed lanes

  each_lane : AllByRecursion (IsFitLane (keys_of (load_class class))) (load_lanes class count seed lanes)
  each_lane = lanes_fit class count seed lanes fits

  vacuum_fits : IsFit (keys_of (load_class class)) Vacuum
  vacuum_fits = plain_fits (keys_of (load_class class)) Vacuum tt tt refl (omega arith)

  all_fits : IsFit (keys_of (load_class class)) (Find All)
  all_fits = plain_fits (keys_of (load_class class)) (Find All) tt tt refl (omega arith)

  is_tidy : IsTidy (record { class = load_class class; parts = load_parts class count seed lanes })
  is_tidy = record {
    parts = (
      (omega (arith, lanes_count class count seed lanes), omega (arith, lanes_count class count seed lanes, few), weaker (IsFitLane (keys_of (load_class class))) (AllByRecursion IsLaneCommand) (load_lanes class count seed lanes) (λ lane is. weaker (IsFit (keys_of (load_class class))) IsLaneCommand lane (λ c f. f.lane) is.each) each_lane),
      ((Vacuum, refl), ((Find All, refl), ((Find (first_query class), refl), ((Find (second_query class), refl), tt)))),
    );
    commands = (
      weaker (IsFitLane (keys_of (load_class class))) (AllByRecursion (IsCommand (keys_of (load_class class)))) (load_lanes class count seed lanes) (λ lane is. weaker (IsFit (keys_of (load_class class))) (IsCommand (keys_of (load_class class))) lane (λ c f. f.command) is.each) each_lane,
      (((vacuum_fits.command, tt), tt), (((all_fits.command, tt), tt), ((((first_fits class).command, tt), tt), ((((second_fits class).command, tt), tt), tt)))),
    );
  }

  -- what is said of the parts
  ends : List Saying
  ends = says Vacuum ∷ says (Find All) ∷ says (Find (first_query class)) ∷ says (Find (second_query class)) ∷ []

  said_short : AllByRecursion IsShortSaying (sayings (load_parts class count seed lanes))
  said_short =
      let rest : AllByRecursion IsShortSaying (says Vacuum ∷ says (Find All) ∷ says (Find (first_query class)) ∷ says (Find (second_query class)) ∷ []) = (vacuum_fits.text, (all_fits.text, ((first_fits class).text, ((second_fits class).text, tt)))) in
      let block : AllByRecursion IsShortSaying (lane_sayings (load_lanes class count seed lanes) ++ block_ends ∷ []) = each_both IsShortSaying (lane_sayings (load_lanes class count seed lanes)) (block_ends ∷ []) (lanes_short (keys_of (load_class class)) (load_lanes class count seed lanes) each_lane) (record { bytes = refl; short = omega arith }, tt) in
      (record { bytes = refl; short = omega arith }, each_both IsShortSaying (lane_sayings (load_lanes class count seed lanes) ++ block_ends ∷ []) _ block rest)

  said_few : length (sayings (load_parts class count seed lanes)) ≤ 7000000
  said_few = omega (
    arith,
    length-append (lane_sayings (load_lanes class count seed lanes) ++ block_ends ∷ []) (says Vacuum ∷ says (Find All) ∷ says (Find (first_query class)) ∷ says (Find (second_query class)) ∷ []),
    length-append (lane_sayings (load_lanes class count seed lanes)) (block_ends ∷ []),
    lanes_few (keys_of (load_class class)) (load_lanes class count seed lanes) each_lane,
    lanes_count class count seed lanes,
    few,
  )

  pub load_written : IsWritten (record { class = load_class class; parts = load_parts class count seed lanes })
  load_written =
      let lines : IsShort (101 * length (sayings (load_parts class count seed lanes))) (flat_map (λ line. line ++ 10 ∷ []) (map saying_text (sayings (load_parts class count seed lanes)))) = lines_short (sayings (load_parts class count seed lanes)) said_short in
      let text : IsShort (2 ^ 32 - 2) (printed (record { class = load_class class; parts = load_parts class count seed lanes })) = shorts 101 (101 * length (sayings (load_parts class count seed lanes))) (2 ^ 32 - 2) (class_text (load_class class) ++ 10 ∷ []) (flat_map (λ line. line ++ 10 ∷ []) (map saying_text (sayings (load_parts class count seed lanes)))) (class_short class) lines (omega (arith, said_few)) in
      record {
        bytes = printed (record { class = load_class class; parts = load_parts class count seed lanes });
        are_bytes = text.bytes;
        short = text.short;
        is_script = exact.printed_spells (record { class = load_class class; parts = load_parts class count seed lanes }) is_tidy;
      }
