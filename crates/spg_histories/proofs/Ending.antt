-- What each status tells.
use Rattle.std.proofs.Common.{◌≡◌, ◌⊎◌, inl, inr, Bool, true, false, cond, List, refl, ap, ◌∙◌}
use Rattle.spg_report.specs.declared.record.Record.{Record}
use Rattle.spg_histories.specs.declared.status.Status.{Status}
use Rattle.spg_histories.specs.declared.status.Status.TheVariants as status
use Rattle.spg_histories.specs.Ending.{Writing, all_taken, write_failed, memory_wanting, is_fault, is_memory, any_outcome, status_after, StatusesTell}

abbrev by_records : Bool → Bool → Status
by_records fault memory = cond fault status.ImageFault (cond memory status.Memory status.Done)

done_is : (fault memory : Bool) → by_records fault memory ≡ status.Done → (fault ≡ false) × (memory ≡ false)
done_is true memory is = (cc)
done_is false true is = (cc)
done_is false false is = (refl, refl)

fault_is : (fault memory : Bool) → by_records fault memory ≡ status.ImageFault → fault ≡ true
fault_is true memory is = refl
fault_is false true is = (cc)
fault_is false false is = (cc)

memory_is : (fault memory : Bool) → by_records fault memory ≡ status.Memory → (fault ≡ false) × (memory ≡ true)
memory_is true memory is = (cc)
memory_is false true is = (refl, refl)
memory_is false false is = (cc)

no_write : (fault memory : Bool) → by_records fault memory ≡ status.WriteFault → ⊥
no_write true memory is = (cc)
no_write false true is = (cc)
no_write false false is = (cc)

done_tells : (w : Writing) (records : List Record) → status_after w records ≡ status.Done → (w ≡ all_taken) × (any_outcome is_fault records ≡ false) × (any_outcome is_memory records ≡ false)
done_tells write_failed records is = (cc)
done_tells memory_wanting records is = (cc)
done_tells all_taken records is = let parts = done_is (any_outcome is_fault records) (any_outcome is_memory records) is in (refl, parts.0, parts.1)

fault_tells : (w : Writing) (records : List Record) → status_after w records ≡ status.ImageFault → (w ≡ all_taken) × (any_outcome is_fault records ≡ true)
fault_tells write_failed records is = (cc)
fault_tells memory_wanting records is = (cc)
fault_tells all_taken records is = (refl, fault_is (any_outcome is_fault records) (any_outcome is_memory records) is)

write_tells : (w : Writing) (records : List Record) → status_after w records ≡ status.WriteFault → w ≡ write_failed
write_tells write_failed records is = refl
write_tells memory_wanting records is = (cc)
write_tells all_taken records is = absurd (no_write (any_outcome is_fault records) (any_outcome is_memory records) is)

memory_tells : (w : Writing) (records : List Record) → status_after w records ≡ status.Memory → (w ≡ memory_wanting) ⊎ ((w ≡ all_taken) × (any_outcome is_fault records ≡ false) × (any_outcome is_memory records ≡ true))
memory_tells write_failed records is = (cc)
memory_tells memory_wanting records is = inl refl
memory_tells all_taken records is = let parts = memory_is (any_outcome is_fault records) (any_outcome is_memory records) is in inr (refl, parts.0, parts.1)

pub statuses_tell : StatusesTell
statuses_tell = record {
  done = λ w records. (done_tells w records, λ is. ap (λ (v : Writing). status_after v records) is.0 ∙ ap (λ (b : Bool). by_records b (any_outcome is_memory records)) is.1 ∙ ap (λ (b : Bool). by_records false b) is.2);
  image_fault = λ w records. (fault_tells w records, λ is. ap (λ (v : Writing). status_after v records) is.0 ∙ ap (λ (b : Bool). by_records b (any_outcome is_memory records)) is.1);
  write_fault = λ w records. (write_tells w records, λ is. ap (λ (v : Writing). status_after v records) is);
  memory = memory_tells;
}
