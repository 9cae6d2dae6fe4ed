-- The bytes of a page, written from its tuples.
use Rattle.std.proofs.Common.{◌≡◌, ℕ, ◌+◌, ◌*◌, ◌<◌, ◌≤◌, Bool, List, [], ◌∷◌, ◌++◌, length, get_or, take, inl, inr, refl, sym, ap, ◌∙◌, arith}
use Rattle.std.proofs.lemmas.Bool.{cases_eq}
use Rattle.std.proofs.lemmas.List.{take_more, take_all}
use Rattle.std.proofs.lemmas.List.Sums.{sum_by_push, sum_by-take-le}
use Rattle.spg_page.specs.declared.tuple.PageKind.{PageKind}
use Rattle.spg_page.specs.declared.tuple.Tuple.{Tuple}
use Rattle.spg_page.specs.declared.tuple.Tuple.TheVariants.{Placeholder}
use Rattle.spg_page.specs.Spelling.{size_of, tuple_of, AreTuple}
use Rattle.spg_page.specs.Layout.{piece_at, IsLaid, IsPushed, NumbersSet}
use Rattle.spg_page.specs.Stored.{used, tuples_in, IsBegun, IsHead, IsStoredIn}
use Rattle.spg_page.proofs.Codec.{spelled_as}
use Rattle.spg_page.proofs.Heads.{begun_same}
use Rattle.spg_page.proofs.Layouts.{laid_same, piece_same}
use Rattle.spg_page.proofs.StoredLaws.{tuples_same, tuples_pushed, used_is}

-- the first n tuples are written
pub record IsImage (b : List ℕ) (kind : PageKind) (nulls : Bool) (ts : List Tuple) (n upper : ℕ) : Type 0 where
  pub first : IsBegun b kind nulls
  pub zeros : (k : ℕ) → 16 ≤ k → k < 24 → get_or b k 0 ≡ 0
  pub tail : (k : ℕ) → 8184 ≤ k → get_or b k 0 ≡ 0
  pub laid : IsLaid b n upper
  pub stored : (i : ℕ) → i < n → AreTuple (piece_at b i)
  pub tuples : tuples_in b n ≡ take n ts

pub image_begun : (b : List ℕ) (kind : PageKind) (nulls : Bool) (ts : List Tuple) → length b ≡ 8192 → IsHead b kind nulls 0 8184 → IsImage b kind nulls ts 0 8184
image_begun b kind nulls ts len head = record {
  first = head.first;
  zeros = head.zeros;
  tail = head.tail;
  laid = record {
    len = len;
    tiled = record {
      pointers = omega arith;
      above = λ i l. absurd (omega arith);
      below = λ i l. absurd (omega arith);
      filled = λ i l. absurd (omega arith);
      apart = λ i j l. absurd (omega arith);
      whole = refl;
    };
  };
  stored = λ i l. absurd (omega arith);
  tuples = refl;
}

module _ {b : List ℕ} {kind : PageKind} {nulls : Bool} {ts : List Tuple} {n upper : ℕ} (I : IsImage b kind nulls ts n upper) where
  pub image_top : upper ≤ 8184
  image_top = let w = I.laid.tiled.whole in omega arith

  -- the next tuple has room
  pub image_room : (piece : List ℕ) → n < length ts → used ts ≤ 8160 → AreTuple piece → tuple_of piece ≡ get_or ts n Placeholder → (28 + 4 * n + length piece ≤ upper) × (0 < length piece)
  image_room piece l fits spelled value =
      let here = spelled_as piece (get_or ts n Placeholder) spelled value in
      let before : used (take n ts) + upper ≡ 8184 + 4 * n = ap (λ us. used us + upper) (sym I.tuples) ∙ used_is b n upper I.laid I.stored in
      let more : used (take (n + 1) ts) ≡ used (take n ts) + (size_of (get_or ts n Placeholder) + 4) = ap used (take_more ts n Placeholder l) ∙ sum_by_push (λ u. size_of u + 4) (take n ts) (get_or ts n Placeholder) in
      let least = sum_by-take-le (λ u. size_of u + 4) ts (n + 1) in
      (omega (arith, here.size, before, more, least, fits), omega (arith, here.low))

  pub image_more : (c piece : List ℕ) (upper2 : ℕ) → n < length ts → AreTuple piece → tuple_of piece ≡ get_or ts n Placeholder → IsPushed b c n upper2 piece → IsImage c kind nulls ts (n + 1) upper2
  image_more c piece upper2 l spelled value r = record {
    first = begun_same b c kind nulls (λ k h. r.head k (omega arith)) I.first;
    zeros = λ k g h. r.head k h ∙ I.zeros k g h;
    tail = λ k h. r.tail k h ∙ I.tail k h;
    laid = r.laid;
    stored = λ i h. elim (cases_eq i n) [
      | inl e ↦ rw (e, r.here) spelled
      | inr ne ↦ let li : i < n = omega arith in rw (r.others i li) (I.stored i li)
    ];
    tuples = tuples_pushed b c n (get_or ts n Placeholder) (ap tuple_of r.here ∙ value) r.others ∙ ap (λ us. us ++ get_or ts n Placeholder ∷ []) I.tuples ∙ sym (take_more ts n Placeholder l);
  }

  -- the numbers of the header are set
  pub image_done : (c : List ℕ) → n ≡ length ts → NumbersSet b c n upper → length c ≡ 8192 → IsStoredIn c (record { kind = kind; nulls = nulls; tuples = ts })
  image_done c e set2 len =
      let pieces : (i : ℕ) → i < n → piece_at c i ≡ piece_at b i = piece_same b c set2.above n upper len I.laid in
      let laid : IsLaid c n upper = laid_same b c set2.above n upper len I.laid in
      let list : tuples_in c n ≡ ts = tuples_same b c n pieces ∙ I.tuples ∙ take_all n ts (omega arith) in
      record {
        head = rw (← e, set2.upper_is) (record {
          first = begun_same b c kind nulls set2.below I.first;
          count_is = set2.count_is;
          upper_is = set2.upper_is;
          zeros = λ k a l. set2.above k a ∙ I.zeros k a l;
          tail = λ k l. set2.above k (omega arith) ∙ I.tail k l;
        });
        laid = rw (← e, set2.upper_is) laid;
        stored = λ i l. let li : i < n = omega arith in rw (pieces i li) (I.stored i li);
        tuples = rw (← e) (sym list);
      }
