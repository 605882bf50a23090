-- What one more digit changes.
use Rattle.dl_frac.proofs.Common.{◌+◌, ◌*◌, ◌∙◌, ap, sym, arith, inl, inr, is_point, is_percent}
use Rattle.dl_bytes.proofs.FirstSign.{any_push_no}
use Rattle.dl_frac.proofs.NumeralLaws.{digit_is, count_push, number_push, places_push, no_mark}
use Rattle.dl_frac.proofs.reading.Reading.push_digit.Goals as goal
use Rattle.dl_frac.proofs.reading.Reading.push_digit.Goals.{then-self, else-self}

pub returns-clause-ok : goal.returns-clause-ok
returns-clause-ok c = λ text r.
    let d = c.args.digit in
    let count = count_push text (48 + d) (digit_is d c.requires.digit) in
    record {
      number = ap (λ n. 10 * n + d) r.number ∙ sym (number_push text d c.requires.digit);
      digits = ap (λ n. n + 1) r.digits ∙ sym count;
      places = places_push text d c.args.self.places c.if-self.places c.requires.digit r.places
          (elim c.if-self.branch [
            | then-self w ↦ inl (sym r.pointed ∙ w.if-self.true, w.places-is)
            | else-self w ↦
                inr (sym r.pointed ∙ w.if-self.false, w.places-is)
          ]);
      pointed = r.pointed ∙ sym (any_push_no is_point text (48 + d) (no_mark d c.requires.digit).0);
      percent = r.percent ∙ sym (any_push_no is_percent text (48 + d) (no_mark d c.requires.digit).1);
      within = omega (arith, r.digits, r.within, count);
    }
