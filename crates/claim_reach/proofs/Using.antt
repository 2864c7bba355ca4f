-- Steps that open no names: a slot, self, super and $, an import, and a using frame around a step. Assumes nothing.
use Prim.Native.Nat.{ℕ, ◌<◌}
use mathlib.Core.List.{List, [], ◌∷◌, ◌++◌}
use mathlib.Core.Option.{some}
use native.Mathlib.Omega.{arith}
use mathlib.Core.Path.{◌≡◌, refl, sym, ap, ◌∙◌, subst}
use lib.ListN.{length, get_or}
use Rattle.rules.specs.Outcome.{choose}
use Rattle.rules.specs.Numbers.{LS, CS, code, records_bytes}
use Rattle.rules.specs.Records.{out_fields, widths, width}
use Rattle.rules.specs.Range.{Numbers}
use Rattle.rules.specs.Tree.{Binding, external}
use Rattle.rules.specs.Frames.{LSlot, local_slot, capture_slot, ClosureFrame, resolve_to_slot}
use Rattle.rules.specs.State.{Limits, AnalysisStack, with_frames, with_out, with_sink}
use Rattle.rules.specs.Writing.{slot_mark, slot_number, emit}
use Rattle.rules.specs.Scoping.{emit_slot}
use Rattle.rules.proofs.After.{After, fine, after_ok, after_bind, after_need, after_self}
use Rattle.claim_scope.specs.Scope.{Meant}
use Rattle.claim_reach.specs.Decode.{◌>>=◌, mark_among, out_marks}
use Rattle.claim_reach.specs.Reach.{View, Trail, source, slot_read}
use Rattle.claim_reach.proofs.Resolving.{Grown, seen, seen_later, resolve_right}
use Rattle.claim_reach.proofs.Decoding.{OutFits, AllFit, record_one, fits_fields}
use Rattle.claim_reach.proofs.Promise.{Key, labels, Ready, Back, Kept, label_count}

-- what a state's walk starts from is its frames and its output
pub kept_from : {ks : List Key} {walk : Back} {ms : List Meant} {b : AnalysisStack} (a a' : AnalysisStack) → a'.frames ≡ a.frames → a'.sink.out ≡ a.sink.out → Kept ks walk ms a' b → Kept ks walk ms a b
kept_from {b = b} a a' same_frames same_out k = record {
  ready = k.ready;
  grew = subst (λ (fs : List ClosureFrame). Grown fs b.frames) same_frames k.grew;
  written = k.written;
  out = k.out ∙ ap (λ (s : List ℕ). s ++ records_bytes k.written) same_out;
  fit = k.fit;
  walked = k.walked;
}

-- A slot

slot_fits : (s : LSlot) → slot_number s < 65536 → OutFits (slot_mark s, slot_number s ∷ [])
unfolding slot_mark slot_number mark_among out_marks code choose out_fields widths width Numbers
slot_fits (local_slot n) small = fits_fields LS (n ∷ []) refl refl refl (omega arith, tt)
slot_fits (capture_slot n) small = fits_fields CS (n ∷ []) refl refl refl (omega arith, tt)

slot_reads : (v : View) (p : ℕ) (s : LSlot) (b : Binding) (rest : Trail) → seen v s ≡ some b → slot_read v p ((slot_mark s, slot_number s ∷ []) ∷ rest) ≡ some ((p, some b) ∷ [], rest)
unfolding slot_read slot_mark slot_number choose code source ◌>>=◌
slot_reads v p (local_slot n) b rest e = rw e refl
slot_reads v p (capture_slot n) b rest e = rw e refl

pub record SlotWritten (p id : ℕ) (a b : AnalysisStack) : Type 0 where
  pub same_errored : b.sink.errored ≡ a.sink.errored
  pub kept : (ks : List Key) → Ready ks a → id < length ks → Kept ks (λ v rs. slot_read v p rs) ((p, some (get_or (labels ks) id (external 0))) ∷ []) a b

module _ (L : Limits) where
  pub slot_written : (p id : ℕ) (st : AnalysisStack) → After (SlotWritten p id st) (emit_slot L p id st)
  unfolding emit_slot resolve_to_slot emit with_out with_sink with_frames AllFit
  slot_written p id st = after_bind _ (after_self _) λ r e. after_need _ 9 p _ λ _. fine (record {
    same_errored = refl;
    kept = λ ks ready lt. (let right = after_ok (resolve_right (labels ks) L.captures p 0 id (length ks) st.frames ready.good ready.stacked (omega (arith, label_count ks)) lt) e in record {
      ready = record { same_keys = ready.same_keys; good = right.good; stacked = right.stacked };
      grew = right.grew;
      written = (slot_mark r.slot, slot_number r.slot ∷ []) ∷ [];
      out = ap (λ (s : List ℕ). st.sink.out ++ s) (sym (record_one (slot_mark r.slot, slot_number r.slot ∷ [])));
      fit = (slot_fits r.slot right.small, tt);
      walked = λ v rest l. slot_reads v p r.slot _ rest (seen_later _ v r.slot _ l right.reads);
    });
  })
