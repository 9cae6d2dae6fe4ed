-- The answers on an image of any class exclude each other, and one clause alone fails first.
use Rattle.std.proofs.Common.{◌≡◌, ℕ, List, Option, Some, inl, inr, sym, ◌∙◌, subst}
use Rattle.spg_clauses.specs.declared.reason.Reason.{Reason}
use Rattle.spg_clauses.specs.declared.reason.Fault.{Fault}
use Rattle.spg_verify.specs.Meta.{IsOfClass}
use Rattle.spg_verify.specs.Verdict.{page_at, HasTop, TopFails, FailsFirst, IsVerified}
use Rattle.spg_verify.specs.declared.reading.Verified.{Verified}
use Rattle.spg_verify.proofs.Apart.{same_bytes, same_fault, top_held, one_top, one_fault, good_fails_none}
use Rattle.spg_image.specs.declared.class.ImageClass.{ImageClass}
use Rattle.spg_image.specs.Classes.{code_of}
use Rattle.spg_image.specs.Verifying.{IsVerifiedAs, IsImageOf, FailsAs, Names, FailsAny, IsBadImage}
use Rattle.spg_image.proofs.Classes.{of_both, of_any, of_code, one_class}

-- a meta page names one class
one_named : (bytes : List ℕ) (c d : ImageClass) → Names bytes c → Names bytes d → c ≡ d
one_named bytes c d n k = one_class c d (sym n.named ∙ k.named)

-- what verifies as a class names it, and fails no clause by it
verified_names : (held : Option (List ℕ)) (v : Verified) (c : ImageClass) → IsVerifiedAs held v c → (bytes : List ℕ) × (held ≡ Some bytes) × HasTop bytes × Names bytes c
verified_names held v c V = of_any ((bytes : List ℕ) × (held ≡ Some bytes) × HasTop bytes × Names bytes c) c
    (of_both (λ Key Recon Cond m code. IsVerified m code held v) (λ Key Recon Cond m code. (IsVerified m code held v) × (code ≡ code_of c)) (λ Key Recon Cond m code. (bytes : List ℕ) × (held ≡ Some bytes) × HasTop bytes × Names bytes c)
    (λ Key Recon Cond m code V (W, e). let (t, ((bytes, is, M, T), H), a, b) = V in (bytes, is, M.top, subst (λ n. IsOfClass n (page_at bytes 0)) e M.class)) c V (of_code (λ Key Recon Cond m code. IsVerified m code held v) c V))

pub same_class : (held : Option (List ℕ)) (v w : Verified) (c d : ImageClass) → IsVerifiedAs held v c → IsVerifiedAs held w d → c ≡ d
same_class held v w c d V W =
    let (a, e, T, n) = verified_names held v c V in
    let (b, f, U, k) = verified_names held w d W in
    one_named a c d n (subst (λ (x : List ℕ). Names x d) (same_bytes held b a f e) k)

not_both : (held : Option (List ℕ)) (f : Fault) (v : Verified) (c : ImageClass) → FailsAs held f c → IsVerifiedAs held v c → ⊥
not_both held f v c F V = of_any ⊥ c (of_both (λ Key Recon Cond m code. FailsFirst m code 4 held f) (λ Key Recon Cond m code. IsVerified m code held v) (λ Key Recon Cond m code. ⊥) (λ Key Recon Cond m code F V. good_fails_none m code 4 held 4 f V.0 F V.1) c F V)

top_there : (held : Option (List ℕ)) (bytes : List ℕ) (r : Reason) → held ≡ Some bytes → HasTop bytes → TopFails held r → ⊥
top_there held bytes r e T F = top_held bytes r T (subst (λ (x : Option (List ℕ)). TopFails x r) e F)

pub image_is_not_bad : (held : Option (List ℕ)) (f : Fault) (v : Verified) → IsImageOf held v → IsBadImage held f → ⊥
image_is_not_bad held f v (c, V) (inl (z, F)) = let (bytes, e, T, n) = verified_names held v c V in top_there held bytes f.reason e T F
image_is_not_bad held f v (c, V) (inr (bytes, e, T, A)) = let (b, d, U, n) = verified_names held v c V in by (subst (λ (x : List ℕ). Names x c) (same_bytes held b bytes d e) n) A
  where
    by : Names bytes c → FailsAny held bytes f → ⊥
    by n (FailsAny.of_class d k F) = not_both held f v c (subst (λ (x : ImageClass). FailsAs held f x) (one_named bytes d c k n) F) V
    by n (FailsAny.of_none none a b) = none c n

one_as : (held : Option (List ℕ)) (f g : Fault) (c : ImageClass) → FailsAs held f c → FailsAs held g c → f ≡ g
one_as held f g c F G = of_any (f ≡ g) c (of_both (λ Key Recon Cond m code. FailsFirst m code 4 held f) (λ Key Recon Cond m code. FailsFirst m code 4 held g) (λ Key Recon Cond m code. f ≡ g) (λ Key Recon Cond m code F G. one_fault m code 4 held f g F G) c F G)

one_any : (held : Option (List ℕ)) (bytes : List ℕ) (f g : Fault) → FailsAny held bytes f → FailsAny held bytes g → f ≡ g
one_any held bytes f g (FailsAny.of_class c n F) (FailsAny.of_class d k G) = one_as held f g c F (subst (λ (x : ImageClass). FailsAs held g x) (one_named bytes d c k n) G)
one_any held bytes f g (FailsAny.of_class c n F) (FailsAny.of_none none z r) = absurd (none c n)
one_any held bytes f g (FailsAny.of_none none z r) (FailsAny.of_class d k G) = absurd (none d k)
one_any held bytes f g (FailsAny.of_none none z r) (FailsAny.of_none none2 y s) = same_fault f g (z ∙ sym y) (r ∙ sym s)

pub one_bad_image : (held : Option (List ℕ)) (f g : Fault) → IsBadImage held f → IsBadImage held g → f ≡ g
one_bad_image held f g (inl (z, F)) (inl (y, G)) = same_fault f g (z ∙ sym y) (one_top held f.reason g.reason F G)
one_bad_image held f g (inl (z, F)) (inr (c, d, T, A)) = absurd (top_there held c f.reason d T F)
one_bad_image held f g (inr (b, e, T, A)) (inl (y, G)) = absurd (top_there held b g.reason e T G)
one_bad_image held f g (inr (b, e, T, A)) (inr (c, d, U, B)) = one_any held b f g A (subst (λ (x : List ℕ). FailsAny held x g) (same_bytes held c b d e) B)
