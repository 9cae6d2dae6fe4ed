use Rattle.std.proofs.Common.{◌≡◌, ◌≤◌, ◌-◌, ℕ, [], ◌∷◌, length, None, refl, sym, ap, ◌∙◌, arith, length-append}
use Rattle.spg_script.specs.Reading.{told, now_of, text_of, put_bytes}
use Rattle.spg_script.proofs.TextLemmas.{read_end, read_none, read_more, past_longest}
use Rattle.spg_script.proofs.texts.text.Goals as goal

pub returns-in-Some-after_quote : goal.returns-in-Some-after_quote
returns-in-Some-after_quote c =
    let on = rw c.in-Some.is at c.in_ok-next.ensures.some in
    rw c.of_short.ensures
    (sym (read_end _ c.push_plain.new.text c.in-Some.next.now (c.loop-rest.invariant.read ∙ on.same) on.few c.in-Some-after_quote.left.now (sym c.after_quote.ensures ∙ ap now_of c.in-Some-after_quote.is)))

pub returns-in-None-first_byte : goal.returns-in-None-first_byte
returns-in-None-first_byte c =
    let on = rw c.in-Some.is at c.in_ok-next.ensures.some in
    sym (read_none _ c.push_plain.new.text c.in-Some.next.now (c.loop-rest.invariant.read ∙ on.same) on.few (sym c.after_quote.ensures ∙ ap now_of c.in-None.is) (sym c.first_byte.ensures ∙ ap told c.in-None-first_byte.is))

pub loop-rest-smaller : goal.loop-rest-smaller
loop-rest-smaller c =
    let on = rw c.in-Some.is at c.in_ok-next.ensures.some in
    let long = ap length c.in_ok-push-in-Some-first_byte.ensures.ok ∙ length-append c.push_plain.new.text (c.in-Some-first_byte.byte ∷ []) in
    omega (arith, long, on.few, on.grows)

pub loop-rest-preserved : goal.loop-rest-preserved
loop-rest-preserved c =
    let on = rw c.in-Some.is at c.in_ok-next.ensures.some in
    record {
      read = rw c.in_ok-push-in-Some-first_byte.ensures.ok
          (read_more _ c.push_plain.new.text c.in-Some.next.now (c.loop-rest.invariant.read ∙ on.same) on.few c.in-Some-first_byte.byte c.in-Some-first_byte.more.now (sym c.first_byte.ensures ∙ ap told c.in-Some-first_byte.is));
      few = rw c.in_ok-push-in-Some-first_byte.ensures.ok (omega (arith, on.few, length-append c.push_plain.new.text (c.in-Some-first_byte.byte ∷ [])));
    }

pub returns : goal.returns
returns c = sym (c.loop-rest.invariant.read ∙ over (length c.loop-rest.text) (omega arith))
  where
    over : (n : ℕ) → 3901 ≤ n → put_bytes c.loop-rest.text (text_of (3901 - n) c.loop-rest.rest.now) ≡ None
    over n past = let none_left : 3901 - n ≡ 0 = omega arith in rw (none_left, past_longest c.loop-rest.rest.now) refl
