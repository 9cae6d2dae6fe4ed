-- Placeholders at the offsets of a chain that are marked one by one.
use Rattle.std.proofs.Common.{◌≡◌, ℕ, zero, suc, ◌<◌, Bool, true, List, [], ◌∷◌, ◌++◌, length, get_or, set, map, nat_le, refl, sym, ap, ◌∙◌, arith}
use Rattle.std.proofs.lemmas.Bool.{cond-false, lt-leb}
use Rattle.std.proofs.lemmas.List.{map-append}
use Rattle.spg_forest.specs.Tuples.{Tuple, Live, Inner, Dead, Redirect, Placeholder}
use Rattle.spg_forest.specs.Pages.{tuple_on, with_tuple}
use Rattle.spg_page.specs.Kinds.{IsOffset}
use Rattle.spg_page.specs.Marks.{blanked}
use Rattle.spg_page.proofs.Marked.{blanked_set, length-blanked}
use Rattle.spg_chain.specs.declared.walk.ChainLeaf.{ChainLeaf}
use Rattle.spg_chain.specs.Chains.{Member, members, member_of, offsets_of, chain_members}
use Rattle.spg_chain.specs.Taken.{emptied}
use Rattle.spg_chain.proofs.Members.{from_tuple}
use Rattle.spg_chain.proofs.Taking.{live_within}

-- a leaf tuple of a chain stands at an offset of the page
members_within : (ts : List Tuple) (k o i : ℕ) (d : Member) → i < length (members (tuple_on ts) k o) → IsOffset ts (get_or (members (tuple_on ts) k o) i d).offset
members_within ts zero o i d l = absurd (omega arith)
members_within ts (suc k) o i d l = go (tuple_on ts o) refl (λ n j h. members_within ts k n j d h) i l
  where
    go : (t : Tuple) → tuple_on ts o ≡ t → ((n j : ℕ) → j < length (members (tuple_on ts) k n) → IsOffset ts (get_or (members (tuple_on ts) k n) j d).offset) → (i : ℕ) → i < length (from_tuple (tuple_on ts) k o t) → IsOffset ts (get_or (from_tuple (tuple_on ts) k o t) i d).offset
    go (Live l n) e r zero h = live_within ts o l n e
    go (Live l n) e r (suc j) h = r n j (omega arith)
    go (Inner w ns) e r i h = absurd (omega arith)
    go Dead e r i h = absurd (omega arith)
    go (Redirect to stamp) e r i h = absurd (omega arith)
    go Placeholder e r i h = absurd (omega arith)

pub member_within : (ts : List Tuple) (h i : ℕ) (m : Member) → i < length (chain_members ts h) → m ≡ get_or (chain_members ts h) i m → IsOffset ts m.offset
member_within ts h i m l e = rw e (members_within ts (length ts) h i m l)

emptied_more : (ts : List Tuple) (os : List ℕ) (o : ℕ) → emptied ts (os ++ o ∷ []) ≡ with_tuple (emptied ts os) o Placeholder
emptied_more ts [] o = refl
emptied_more ts (p ∷ ps) o = emptied_more (with_tuple ts p Placeholder) ps o

blanked_at : (ms : List Bool) (ts : List Tuple) (o : ℕ) → o < length ms → IsOffset ts o → blanked Placeholder (set ms o true) ts ≡ with_tuple (blanked Placeholder ms ts) o Placeholder
blanked_at ms ts zero l h = absurd (omega (arith, h.0))
blanked_at ms ts (suc i) l h =
    let us : List Tuple = blanked Placeholder ms ts in
    let b : i < length ts = omega (arith, h.1) in
    blanked_set Placeholder ms ts i l b ∙ sym (cond-false (nat_le (length us) i) (us ++ Placeholder ∷ []) (set us i Placeholder) (lt-leb (length us) i (omega (arith, length-blanked Placeholder ms ts))))

-- one more is marked
pub marking_step : (ts : List Tuple) (ms : List Bool) (ls : List ChainLeaf) (leaf : ChainLeaf) → leaf.offset < length ms → IsOffset ts leaf.offset → blanked Placeholder ms ts ≡ emptied ts (offsets_of (map member_of ls)) → blanked Placeholder (set ms leaf.offset true) ts ≡ emptied ts (offsets_of (map member_of (ls ++ leaf ∷ [])))
marking_step ts ms ls leaf l h e =
    let more : offsets_of (map member_of (ls ++ leaf ∷ [])) ≡ offsets_of (map member_of ls) ++ leaf.offset ∷ [] = ap offsets_of (map-append member_of ls (leaf ∷ [])) ∙ map-append (λ (m : Member). m.offset) (map member_of ls) (member_of leaf ∷ []) in
    blanked_at ms ts leaf.offset l h ∙ ap (λ us. with_tuple us leaf.offset Placeholder) e ∙ sym (ap (emptied ts) more ∙ emptied_more ts (offsets_of (map member_of ls)) leaf.offset)
