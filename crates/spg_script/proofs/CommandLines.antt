-- Commands: what is spelled is read, and what is read is spelled.
use Rattle.std.proofs.Common.{◌≡◌, inl, inr, ◌<◌, ◌≤◌, ◌^◌, ℕ, zero, suc, Bool, true, false, List, [], ◌∷◌, ◌++◌, length, drop, Option, Some, None, refl, sym, ap, ◌∙◌, subst, arith, cond, ◌==◌}
use Rattle.std.specs.Prelude.{codes}
use Rattle.std.specs.Fmt.{decimal}
use Rattle.std.proofs.lemmas.Bool.{le-ltb, lt-ltb, cases_lt}
use Rattle.std.proofs.lemmas.Bool.Decides.{eqb_tells}
use Rattle.std.proofs.lemmas.Option.{same_Some}
use Rattle.spg_base.specs.Row.{RowAt}
use Rattle.spg_base.specs.Text.{row_text, point_text}
use Rattle.spg_base.specs.declared.point.Point.{Point}
use Rattle.spg_base.specs.declared.point.PointCond.{PointCond}
use Rattle.spg_radix.specs.declared.condition.TextCond.{TextCond}
use Rattle.spg_range.specs.declared.range.RangeCond.{RangeCond}
use Rattle.spg_script.specs.declared.key_form.KeyForm.{KeyForm}
use Rattle.spg_script.specs.declared.key_form.KeyForm.TheVariants as form
use Rattle.spg_script.specs.declared.any_key.AnyKey.{AnyKey}
use Rattle.spg_script.specs.declared.any_cond.AnyCond.{AnyCond}
use Rattle.spg_script.specs.declared.any_cond.AnyCond.TheVariants as any_cond
use Rattle.spg_script.specs.declared.any_query.AnyQuery.{AnyQuery}
use Rattle.spg_script.specs.declared.any_query.AnyQuery.TheVariants.{All, Null, Where}
use Rattle.spg_script.specs.declared.command.Command.{Command}
use Rattle.spg_script.specs.declared.command.Command.TheVariants.{Insert, Delete, Find, Vacuum, Save, Stat, Near}
use Rattle.spg_script.specs.Spelling.{IsPoint, IsRow}
use Rattle.spg_script.specs.Line.{bare_form, cond_form, is_name, SpellsKeyOrNull, SpellsAnyCond, SpellsCond, SpellsConds, SpellsQuery, SpellsCommand}
use Rattle.spg_script.specs.Reading.{◌>>=◌, split_at, row_of, point_of, number_of, bare_cond_then, cond_then, point_cond_then, text_cond_then, range_cond_then, after, cond_and, first_cond_of, more_conds, conds_of, key_of, insert_of, find_of, delete_of, save_of, near_at, near_behind, near_of, command_of}
use Rattle.spg_script.proofs.Options.{bind_some, pair_some, word_or, front_or}
use Rattle.spg_script.proofs.Digits.{HasNo, HasNo-cons, HasNo-append, HasNo-decimal, byte_other, number_of-decimal, spelled-number_of, split_at-front, spelled-split_at, row_of-text, spelled-row_of, point_apart, point_of-text, spelled-point_of}
use Rattle.spg_script.proofs.KeyLines.{key_of-spelled, spelled-key_of}
use Rattle.spg_script.proofs.RangeLines.{range_cond_then-spelled, spelled-range_cond_then}
use Rattle.spg_script.proofs.CondLines.{IsBlank, point_cond_then-spelled, spelled-point_cond_then, text_cond_then-spelled, spelled-text_cond_then}

-- ---- one condition

bare_cond_then-spelled : (c : AnyCond) (bytes left : List ℕ) → SpellsAnyCond c bytes left → IsBlank left → bare_cond_then (cond_form c) bytes ≡ Some (c, left)
bare_cond_then-spelled (any_cond.Point c) bytes left is blank = rw (point_cond_then-spelled c bytes left is.0 is.1 blank) refl
bare_cond_then-spelled (any_cond.Text c) bytes left is blank = rw (text_cond_then-spelled c bytes is.0 left is.1 is.2) refl
bare_cond_then-spelled (any_cond.Range c) bytes left is blank = rw (range_cond_then-spelled c bytes left is.0 is.1 blank) refl

cond_then-spelled : (keys : KeyForm) (c : AnyCond) (bytes left : List ℕ) → SpellsCond keys c bytes left → IsBlank left → cond_then keys bytes ≡ Some (c, left)
unfolding cond_then
cond_then-spelled keys c bytes left is blank = ap (λ (f : KeyForm). bare_cond_then f bytes) is.0 ∙ bare_cond_then-spelled c bytes left is.1 blank

-- a condition, where it is made of what was read
abbrev Says : KeyForm → List ℕ → AnyCond → List ℕ → Type 0
Says f bytes c left = (f ≡ cond_form c) × SpellsAnyCond c bytes left

said : (f : KeyForm) (bytes : List ℕ) (made c : AnyCond) (rest left : List ℕ) → Says f bytes made rest → ◌≡◌ {A = Option (AnyCond × List ℕ)} (Some (made, rest)) (Some (c, left)) → Says f bytes c left
said f bytes made c rest left says h =
    let same = pair_some made c rest left h in
    subst (λ (k : AnyCond). Says f bytes k left) same.0 (subst (λ (l : List ℕ). Says f bytes made l) same.1 says)

spelled-bare_cond_then : (f : KeyForm) (bytes : List ℕ) (c : AnyCond) (left : List ℕ) → bare_cond_then f bytes ≡ Some (c, left) → Says f bytes c left
spelled-bare_cond_then form.Point bytes c left is =
    let a = bind_some (λ (first : PointCond × List ℕ). Some (any_cond.Point first.0, first.1)) (point_cond_then bytes) (c, left) is in
    said form.Point bytes (any_cond.Point a.0.0) c a.0.1 left (refl, spelled-point_cond_then bytes a.0.0 a.0.1 a.1) a.2
spelled-bare_cond_then form.Text bytes c left is =
    let a = bind_some (λ (first : TextCond × List ℕ). Some (any_cond.Text first.0, first.1)) (text_cond_then bytes) (c, left) is in
    said form.Text bytes (any_cond.Text a.0.0) c a.0.1 left (refl, spelled-text_cond_then bytes a.0.0 a.0.1 a.1) a.2
spelled-bare_cond_then form.PointValue bytes c left is = (cc)
spelled-bare_cond_then form.TextValue bytes c left is = (cc)
spelled-bare_cond_then form.Range bytes c left is =
    let a = bind_some (λ (first : RangeCond × List ℕ). Some (any_cond.Range first.0, first.1)) (range_cond_then bytes) (c, left) is in
    said form.Range bytes (any_cond.Range a.0.0) c a.0.1 left (refl, spelled-range_cond_then bytes a.0.0 a.0.1 a.1) a.2

spelled-cond_then : (keys : KeyForm) (bytes : List ℕ) (c : AnyCond) (left : List ℕ) → cond_then keys bytes ≡ Some (c, left) → SpellsCond keys c bytes left
unfolding cond_then
spelled-cond_then keys bytes c left is = spelled-bare_cond_then (bare_form keys) bytes c left is

last_cond : (keys : KeyForm) (c : AnyCond) (bytes : List ℕ) → SpellsCond keys c bytes [] → first_cond_of keys bytes ≡ Some (c, None)
unfolding first_cond_of
last_cond keys c bytes is = rw (cond_then-spelled keys c bytes [] is (inl refl)) refl

further_cond : (keys : KeyForm) (c : AnyCond) (bytes left more : List ℕ) → SpellsCond keys c bytes left → left ≡ codes " and " ++ more → first_cond_of keys bytes ≡ Some (c, Some more)
unfolding first_cond_of
further_cond keys c bytes left more is e =
    let some : (length (codes " and " ++ more) == 0) ≡ false = byte_other 0 (length (codes " and " ++ more)) (omega arith) in
    rw (cond_then-spelled keys c bytes left is (inr (97 ∷ 110 ∷ 100 ∷ 32 ∷ more, e))) (rw e (rw some refl))

-- what a first condition says
abbrev Begins : KeyForm → List ℕ → AnyCond → Option (List ℕ) → Type 0
Begins keys bytes c None = SpellsCond keys c bytes []
Begins keys bytes c (Some more) = SpellsCond keys c bytes (codes " and " ++ more)

cond_and_is : (keys : KeyForm) (bytes : List ℕ) (c d : AnyCond) (left : List ℕ) (more : Option (List ℕ)) → SpellsCond keys c bytes left → cond_and c left ≡ Some (d, more) → Begins keys bytes d more
cond_and_is keys bytes c d [] more says is =
    let same = pair_some c d None more is in
    subst (λ (m : Option (List ℕ)). Begins keys bytes d m) same.1 (subst (λ (k : AnyCond). SpellsCond keys k bytes []) same.0 says)
cond_and_is keys bytes c d (b ∷ left) more says is = elim (eqb_tells (length (b ∷ left)) 0) [
  | inl none ↦ absurd (omega (arith, none.1))
  | inr some ↦
      let a = bind_some (λ (m : List ℕ). Some (c, Some m)) (after (codes " and ") (b ∷ left)) (d, more) (rw some.0 at is) in
      let same = pair_some c d (Some a.0) more a.2 in
      elim (front_or (b ∷ left) (codes " and ") _ _ a.0 a.1) [
        | inl front ↦
            let behind : drop 5 (b ∷ left) ≡ a.0 = same_Some _ _ front.1 in
            let left_is : b ∷ left ≡ codes " and " ++ a.0 = front.0 ∙ ap (λ l. codes " and " ++ l) behind in
            subst (λ (m : Option (List ℕ)). Begins keys bytes d m) same.1 (subst (λ (k : AnyCond). SpellsCond keys k bytes (codes " and " ++ a.0)) same.0 (subst (λ (l : List ℕ). SpellsCond keys c bytes l) left_is says))
        | inr none ↦ (cc)
      ]
]

spelled-first_cond_of : (keys : KeyForm) (bytes : List ℕ) (c : AnyCond) (more : Option (List ℕ)) → first_cond_of keys bytes ≡ Some (c, more) → Begins keys bytes c more
unfolding first_cond_of
spelled-first_cond_of keys bytes c more is =
    let a = bind_some (λ (first : AnyCond × List ℕ). cond_and first.0 first.1) (cond_then keys bytes) (c, more) is in
    cond_and_is keys bytes a.0.0 c a.0.1 more (spelled-cond_then keys bytes a.0.0 a.0.1 a.1) a.2

-- ---- conditions

conds_of-spelled : (keys : KeyForm) (n : ℕ) (c : AnyCond) (conds : List AnyCond) (bytes left : List ℕ) → length (c ∷ conds) ≤ n → SpellsCond keys c bytes left → SpellsConds keys (codes " and ") conds left → conds_of keys n bytes ≡ Some (c ∷ conds)
unfolding conds_of
conds_of-spelled keys zero c conds bytes left few says more = absurd (omega arith)
conds_of-spelled keys (suc n) c [] bytes left few says more = rw (last_cond keys c bytes (subst (λ (l : List ℕ). SpellsCond keys c bytes l) more says)) refl
conds_of-spelled keys (suc n) c (d ∷ conds) bytes left few says more = rw (further_cond keys c bytes left more.0 says more.2) (rw (conds_of-spelled keys n d conds more.0 more.1 (omega arith) more.3 more.4) refl)

-- what the conditions that are read say behind a word
record ReadConds (keys : KeyForm) (n : ℕ) (word bytes : List ℕ) (conds : List AnyCond) : Type 0 where
  spelled : SpellsConds keys word conds (word ++ bytes)
  some : 1 ≤ length conds
  few : length conds ≤ n

read_conds : (keys : KeyForm) (n : ℕ) (word bytes : List ℕ) (conds : List AnyCond) → conds_of keys n bytes ≡ Some conds → ReadConds keys n word bytes conds
unfolding conds_of
read_conds keys zero word bytes conds is = (cc)
read_conds keys (suc n) word bytes conds is = go (λ b l h. read_conds keys n (codes " and ") b l h) (first_cond_of keys bytes) refl is
  where
    go : ((b : List ℕ) (l : List AnyCond) → conds_of keys n b ≡ Some l → ReadConds keys n (codes " and ") b l) → (first : Option (AnyCond × Option (List ℕ))) → first_cond_of keys bytes ≡ first → more_conds (conds_of keys n) first ≡ Some conds → ReadConds keys (suc n) word bytes conds
    go read None e h = (cc)
    go read (Some (c, None)) e h =
        subst (λ (l : List AnyCond). ReadConds keys (suc n) word bytes l) (same_Some (c ∷ []) conds h)
        (record { spelled = (bytes, [], refl, spelled-first_cond_of keys bytes c None e, refl); some = omega arith; few = omega arith })
    go read (Some (c, Some more)) e h =
        let a = bind_some (λ (l : List AnyCond). Some (c ∷ l)) (conds_of keys n more) conds h in
        let later = read more a.0 a.1 in
        subst (λ (l : List AnyCond). ReadConds keys (suc n) word bytes l) (same_Some (c ∷ a.0) conds a.2)
        (record { spelled = (bytes, codes " and " ++ more, refl, spelled-first_cond_of keys bytes c (Some more) e, later.spelled); some = omega arith; few = omega (arith, later.few) })

-- ---- commands

row_apart : (row : RowAt) → IsRow row → HasNo 32 (row_text row)
row_apart row is = HasNo-append 32 (decimal row.block) (46 ∷ decimal row.offset) (HasNo-decimal 32 row.block (omega arith) (omega (arith, is.block)))
    (HasNo-cons 32 46 (decimal row.offset) refl (HasNo-decimal 32 row.offset (omega arith) (omega (arith, is.offset))))

pub insert_of-spelled : (keys : KeyForm) (row : RowAt) (key : Option AnyKey) (bytes : List ℕ) → IsRow row → SpellsKeyOrNull keys key bytes → insert_of keys (row_text row ++ 32 ∷ bytes) ≡ Some (Insert row key)
unfolding insert_of
insert_of-spelled keys row key bytes is says = rw (split_at-front 32 (row_text row) bytes (row_apart row is)) (rw (row_of-text row is, key_of-spelled keys key bytes says) refl)

spelled-insert_of : (keys : KeyForm) (bytes : List ℕ) (c : Command) → insert_of keys bytes ≡ Some c → SpellsCommand keys c (codes "insert " ++ bytes)
unfolding insert_of
spelled-insert_of keys bytes c is =
    let a = bind_some (λ (parts : List ℕ × List ℕ). row_of parts.0 >>= λ row. (key_of keys parts.1 >>= λ key. Some (Insert row key))) (split_at 32 bytes) c is in
    let b = bind_some (λ (row : RowAt). key_of keys a.0.1 >>= λ key. Some (Insert row key)) (row_of a.0.0) c a.2 in
    let d = bind_some (λ (key : Option AnyKey). Some (Insert b.0 key)) (key_of keys a.0.1) c b.2 in
    let row = spelled-row_of a.0.0 b.0 b.1 in
    let text : bytes ≡ row_text b.0 ++ 32 ∷ a.0.1 = spelled-split_at 32 bytes a.0.0 a.0.1 a.1 ∙ ap (λ l. l ++ 32 ∷ a.0.1) row.0 in
    let says : SpellsCommand keys (Insert b.0 d.0) (codes "insert " ++ bytes) = (a.0.1, ap (λ l. codes "insert " ++ l) text, row.1, spelled-key_of keys a.0.1 d.0 d.1) in
    subst (λ (k : Command). SpellsCommand keys k (codes "insert " ++ bytes)) (same_Some _ _ d.2) says

pub find_of-spelled : (keys : KeyForm) (query : AnyQuery) (bytes : List ℕ) → SpellsQuery keys query bytes → find_of keys bytes ≡ Some (Find query)
unfolding find_of
find_of-spelled keys All bytes is = rw is refl
find_of-spelled keys Null bytes is = rw is refl
find_of-spelled keys (Where []) bytes is = absurd (omega (arith, is.1))
find_of-spelled keys (Where (c ∷ conds)) bytes is = rw is.0.2 (rw (conds_of-spelled keys 8 c conds is.0.0 is.0.1 is.2 is.0.3 is.0.4) refl)

spelled-find_of : (keys : KeyForm) (bytes : List ℕ) (c : Command) → find_of keys bytes ≡ Some c → SpellsCommand keys c (codes "find " ++ bytes)
unfolding find_of
spelled-find_of keys bytes c is = elim (word_or bytes (codes "all") _ _ c is) [
  | inl a ↦ subst (λ (k : Command). SpellsCommand keys k (codes "find " ++ bytes)) (same_Some _ _ a.1) (bytes, refl, a.0)
  | inr is ↦ elim (word_or bytes (codes "null") _ _ c is) [
    | inl a ↦ subst (λ (k : Command). SpellsCommand keys k (codes "find " ++ bytes)) (same_Some _ _ a.1) (bytes, refl, a.0)
    | inr is ↦ elim (front_or bytes (codes "where ") _ _ c is) [
      | inl a ↦
          let b = bind_some (λ (conds : List AnyCond). Some (Find (Where conds))) (conds_of keys 8 (drop 6 bytes)) c a.1 in
          let read = read_conds keys 8 (codes "where ") (drop 6 bytes) b.0 b.1 in
          let says : SpellsQuery keys (Where b.0) bytes = (subst (λ (l : List ℕ). SpellsConds keys (codes "where ") b.0 l) (sym a.0) read.spelled, read.some, read.few) in
          subst (λ (k : Command). SpellsCommand keys k (codes "find " ++ bytes)) (same_Some _ _ b.2) (bytes, refl, says)
      | inr is ↦ (cc)
    ]
  ]
]

-- a search for the nearest rows
near_at-is : (target : Point) (limit : ℕ) → 0 < limit → limit < 2 ^ 16 → near_at target limit ≡ Some (Near target limit)
near_at-is target limit some few = rw (byte_other 0 limit some, le-ltb 65535 limit (omega arith)) refl

near_of-spelled : (target : Point) (limit : ℕ) → IsPoint target → 0 < limit → limit < 2 ^ 16 → near_of form.Point (point_text target ++ 32 ∷ decimal limit) ≡ Some (Near target limit)
unfolding near_of
near_of-spelled target limit is some few =
    let small : limit < 2 ^ 32 = omega arith in
    rw (split_at-front 32 (point_text target) (decimal limit) (point_apart 32 target (omega arith) is)) (rw (point_of-text target is, number_of-decimal limit small) (near_at-is target limit some few))

positive : (n : ℕ) → (n ≡ 0 → ⊥) → 0 < n
positive zero other = absurd (other refl)
positive (suc n) other = omega arith

near_at-some : (target : Point) (limit : ℕ) (c : Command) → near_at target limit ≡ Some c → (0 < limit) × (limit < 2 ^ 16) × (Near target limit ≡ c)
near_at-some target limit c is = elim (eqb_tells limit 0) [
  | inl none ↦ let clash : None ≡ Some c = rw none.0 at is in (cc)
  | inr some ↦ elim (cases_lt 65535 limit) [
    | inl high ↦ let clash : None ≡ Some c = rw (some.0, lt-ltb 65535 limit high) at is in (cc)
    | inr low ↦ let same : Some (Near target limit) ≡ Some c = rw (some.0, le-ltb 65535 limit (omega arith)) at is in (positive limit some.1, omega arith, same_Some _ _ same)
  ]
]

spelled-near_behind : (bytes : List ℕ) (c : Command) → near_behind bytes ≡ Some c → SpellsCommand form.Point c (codes "near " ++ bytes)
spelled-near_behind bytes c is =
    let a = bind_some (λ (parts : List ℕ × List ℕ). point_of parts.0 >>= λ target. (number_of parts.1 >>= λ limit. near_at target limit)) (split_at 32 bytes) c is in
    let b = bind_some (λ (target : Point). number_of a.0.1 >>= λ limit. near_at target limit) (point_of a.0.0) c a.2 in
    let d = bind_some (λ (limit : ℕ). near_at b.0 limit) (number_of a.0.1) c b.2 in
    let point = spelled-point_of a.0.0 b.0 b.1 in
    let number = spelled-number_of a.0.1 d.0 d.1 in
    let range = near_at-some b.0 d.0 c d.2 in
    let text : bytes ≡ point_text b.0 ++ 32 ∷ decimal d.0 = spelled-split_at 32 bytes a.0.0 a.0.1 a.1 ∙ ap (λ l. l ++ 32 ∷ a.0.1) point.0 ∙ ap (λ l. point_text b.0 ++ 32 ∷ l) number.0 in
    let says : SpellsCommand form.Point (Near b.0 d.0) (codes "near " ++ bytes) = (refl, ap (λ l. codes "near " ++ l) text, point.1, range.0, range.1) in
    subst (λ (k : Command). SpellsCommand form.Point k (codes "near " ++ bytes)) range.2 says

spelled-near_of : (keys : KeyForm) (bytes : List ℕ) (c : Command) → near_of keys bytes ≡ Some c → SpellsCommand keys c (codes "near " ++ bytes)
unfolding near_of
spelled-near_of form.Point bytes c is = spelled-near_behind bytes c is
spelled-near_of form.Text bytes c is = (cc)
spelled-near_of form.PointValue bytes c is = (cc)
spelled-near_of form.TextValue bytes c is = (cc)
spelled-near_of form.Range bytes c is = (cc)

pub command_of-spelled : (keys : KeyForm) (c : Command) (line : List ℕ) → SpellsCommand keys c line → command_of keys line ≡ Some c
unfolding command_of delete_of save_of
command_of-spelled keys (Insert row key) line is = rw is.1 (insert_of-spelled keys row key is.0 is.2 is.3)
command_of-spelled keys (Find query) line is = rw is.1 (find_of-spelled keys query is.0 is.2)
command_of-spelled keys (Delete row) line is = rw is.0 (rw (row_of-text row is.1) refl)
command_of-spelled keys Vacuum line is = rw is refl
command_of-spelled keys (Save name) line is = rw is.0 (rw is.1 refl)
command_of-spelled keys Stat line is = rw is refl
command_of-spelled keys (Near target limit) line is = rw (is.0, is.1) (near_of-spelled target limit is.2 is.3 is.4)

spelled-delete_of : (keys : KeyForm) (bytes : List ℕ) (c : Command) → delete_of bytes ≡ Some c → SpellsCommand keys c (codes "delete " ++ bytes)
unfolding delete_of
spelled-delete_of keys bytes c is =
    let a = bind_some (λ (row : RowAt). Some (Delete row)) (row_of bytes) c is in
    let row = spelled-row_of bytes a.0 a.1 in
    let says : SpellsCommand keys (Delete a.0) (codes "delete " ++ bytes) = (ap (λ l. codes "delete " ++ l) row.0, row.1) in
    subst (λ (k : Command). SpellsCommand keys k (codes "delete " ++ bytes)) (same_Some _ _ a.2) says

spelled-save_of : (keys : KeyForm) (bytes : List ℕ) (c : Command) → save_of bytes ≡ Some c → SpellsCommand keys c (codes "save " ++ bytes)
unfolding save_of
spelled-save_of keys bytes c is = go (is_name bytes) refl is
  where
    go : (t : Bool) → is_name bytes ≡ t → cond t (Some (Save bytes)) None ≡ Some c → SpellsCommand keys c (codes "save " ++ bytes)
    go true e h = let says : SpellsCommand keys (Save bytes) (codes "save " ++ bytes) = (refl, e) in subst (λ (k : Command). SpellsCommand keys k (codes "save " ++ bytes)) (same_Some _ _ h) says
    go false e h = (cc)

pub spelled-command_of : (keys : KeyForm) (line : List ℕ) (c : Command) → command_of keys line ≡ Some c → SpellsCommand keys c line
unfolding command_of
spelled-command_of keys line c is = elim (front_or line (codes "insert ") _ _ c is) [
  | inl a ↦ subst (λ (l : List ℕ). SpellsCommand keys c l) (sym a.0) (spelled-insert_of keys (drop 7 line) c a.1)
  | inr is ↦ elim (front_or line (codes "find ") _ _ c is) [
    | inl a ↦ subst (λ (l : List ℕ). SpellsCommand keys c l) (sym a.0) (spelled-find_of keys (drop 5 line) c a.1)
    | inr is ↦ elim (front_or line (codes "delete ") _ _ c is) [
      | inl a ↦ subst (λ (l : List ℕ). SpellsCommand keys c l) (sym a.0) (spelled-delete_of keys (drop 7 line) c a.1)
      | inr is ↦ elim (front_or line (codes "near ") _ _ c is) [
        | inl a ↦ subst (λ (l : List ℕ). SpellsCommand keys c l) (sym a.0) (spelled-near_of keys (drop 5 line) c a.1)
        | inr is ↦ elim (front_or line (codes "save ") _ _ c is) [
          | inl a ↦ subst (λ (l : List ℕ). SpellsCommand keys c l) (sym a.0) (spelled-save_of keys (drop 5 line) c a.1)
          | inr is ↦ elim (word_or line (codes "vacuum") _ _ c is) [
            | inl a ↦ subst (λ (k : Command). SpellsCommand keys k line) (same_Some _ _ a.1) a.0
            | inr is ↦ elim (word_or line (codes "stat") _ _ c is) [
              | inl a ↦ subst (λ (k : Command). SpellsCommand keys k line) (same_Some _ _ a.1) a.0
              | inr is ↦ (cc)
            ]
          ]
        ]
      ]
    ]
  ]
]
