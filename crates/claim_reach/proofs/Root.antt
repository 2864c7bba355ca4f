-- The root: its externals, its frame and its shape around the walk of the whole output. Assumes nothing.
use Prim.Native.Nat.{ℕ, suc, ◌+◌, ◌≤◌}
use mathlib.Core.Bool.{true, false, false≢true}
use mathlib.Core.List.{List, [], ◌∷◌, ◌++◌, reverse, append_assoc, append-nil}
use mathlib.Core.Option.{Option, none, some}
use native.Mathlib.Omega.{arith}
use mathlib.Core.Path.{◌≡◌, refl, sym, ap, ◌∙◌, subst}
use lib.ListN.{length}
use lib.Dec.{eqb}
use Rattle.rules.specs.Numbers.{Name, Record, records_bytes, SH}
use Rattle.rules.specs.Records.{no_span}
use Rattle.rules.specs.Tree.{Tree, Binding, external}
use Rattle.rules.specs.Locals.{new_local}
use Rattle.rules.specs.Frames.{ClosureFrame, no_frame, new_frame, top, beneath, defining}
use Rattle.rules.specs.State.{Limits, Sink, AnalysisStack, empty_stack, with_frames, with_locals, with_out, with_sink}
use Rattle.rules.specs.Writing.{open_frame, close_frame, shape_numbers}
use Rattle.rules.specs.Scoping.{push_local}
use Rattle.rules.specs.Walk.{at_root, unnamed}
use Rattle.rules.specs.Call.{define_externals, open_root, analyze_root}
use Rattle.rules.proofs.After.{After, fine, after_weaken, after_bind, after_need}
use Rattle.claim_scope.specs.Scope.{meaning}
use Rattle.claim_reach.specs.Lexical.{read, root_scope, lexical_read}
use Rattle.claim_reach.specs.Decode.{◌>>=◌}
use Rattle.claim_reach.specs.Reach.{View, Trail, check, open_defining, external_slots, no_view, reach, reach_records}
use Rattle.claim_reach.proofs.Resolving.{none≢some, Grown, all_grown, Stacked, bottom, on_top, Later, Good, none_open, one_more, no_more, view_of}
use Rattle.claim_reach.proofs.Decoding.{AllFit}
use Rattle.claim_reach.proofs.Promise.{Key, keys, labels, newest_key, labelled, Inside, Agree, Ready, Kept, Step, keys_append}
use Rattle.claim_reach.proofs.Frames.{emit_is, closed_state}
use Rattle.claim_reach.proofs.Relabel.{defined_frame, left_state, defining_kept}
use Rattle.claim_reach.proofs.Defining.{Scoped}
use Rattle.claim_reach.proofs.Externals.{external_keys, external_keys_slots, externals_scoped}
use Rattle.claim_reach.proofs.Walking.{Walks, unnamed_fits}

-- the externals are the only locals, and nothing else happened
pub record Externals (k : ℕ) (names : List Name) (a b : AnalysisStack) : Type 0 where
  pub same_keys : keys b.locals ≡ keys a.locals ++ external_keys k names
  pub same_frames : b.frames ≡ a.frames
  pub same_sink : b.sink ≡ a.sink

external_count : (k : ℕ) (names : List Name) → length (external_keys k names) ≡ length names
unfolding external_keys
external_count k [] = refl
external_count k (n ∷ names) = ap suc (external_count (suc k) names)

-- what is left of a tree analysed without an error: records that are walked to what it means
pub record RootKept (t : Tree) (st : AnalysisStack) : Type 0 where
  pub written : List Record
  pub out : st.sink.out ≡ records_bytes written
  pub fit : AllFit written
  pub walked : reach_records t (reverse written) ≡ some (lexical_read t)

module _ (L : Limits) where
  externals_there : (k : ℕ) (names : List Name) (st : AnalysisStack) → After (Externals k names st) (define_externals L k names st)
  unfolding define_externals push_local external_keys with_locals new_local
  externals_there k [] st = fine (record { same_keys = sym (append-nil (keys st.locals)); same_frames = refl; same_sink = refl })
  externals_there k (name ∷ names) st =
      let l = new_local (external k) (some name) no_span 0 true in
      after_bind {P = λ (b : AnalysisStack). b ≡ with_locals (st.locals ++ (l ∷ [])) st} _ (after_need _ 6 0 _ λ _. fine refl) λ b is.
      after_weaken (externals_there (suc k) names b) λ c more. record {
        same_keys = more.same_keys ∙ ap (λ (b : AnalysisStack). keys b.locals ++ external_keys (suc k) names) is
            ∙ ap (λ (ks : List Key). ks ++ external_keys (suc k) names) (keys_append st.locals (l ∷ [])) ∙ append_assoc (keys st.locals) ((external k, some name) ∷ []) (external_keys (suc k) names);
        same_frames = more.same_frames ∙ ap (λ (b : AnalysisStack). b.frames) is;
        same_sink = more.same_sink ∙ ap (λ (b : AnalysisStack). b.sink) is;
      }

  root_agrees : (t : Tree) → Agree (external_keys 0 t.externals) at_root (root_scope t)
  unfolding root_scope at_root Scoped meaning labelled newest_key Inside
  root_agrees t = record { names = externals_scoped [] [] 0 t.externals (λ name. refl); this = refl; dollar = refl; this_inside = tt; dollar_inside = tt }

  -- beneath the root's frame there is nothing
  nothing_ready : Ready [] empty_stack
  unfolding empty_stack
  nothing_ready = record { same_keys = refl; good = none_open; stacked = bottom }

  root_ready : (ks : List Key) (st : AnalysisStack) → length ks ≤ 65535 → keys st.locals ≡ ks → st.frames ≡ defined_frame 0 (length ks) ∷ [] → Ready ks st
  unfolding defined_frame
  root_ready ks st few same_keys same_frames = record {
    same_keys = same_keys;
    good = subst (λ (fs : List ClosureFrame). Good (labels ks) fs) (sym same_frames) (one_more no_more none_open);
    stacked = subst (λ (fs : List ClosureFrame). Stacked (length ks) fs) (sym same_frames) (subst (λ (n : ℕ). Stacked n (defined_frame 0 (length ks) ∷ [])) none_before (on_top {f = defined_frame 0 (length ks)} bottom refl (λ e. absurd (not_false e)) few (omega arith)));
  }
    where
      none_before : 0 + length ks ≡ length ks
      none_before = omega arith

      not_false : true ≡ false → ⊥
      not_false e = false≢true (sym e)

  nothing_later : (gs : List ClosureFrame) → Grown [] gs → Later (view_of [] gs) no_view
  unfolding no_view defining no_frame new_frame top
  nothing_later _ all_grown = record { same_slots = refl; more = []; taken_then = refl }

  -- over all of the output, with nothing left
  whole : (t : Tree) (st : AnalysisStack) → Kept [] (λ v rs. open_defining (labels (external_keys 0 t.externals)) v rs >>= λ x. reach t.root x.0 x.1) (lexical_read t) empty_stack (left_state 0 st) → RootKept t (closed_state st)
  unfolding left_state closed_state empty_stack reach_records ◌>>=◌ check with_frames with_locals with_out with_sink
  whole t st k = record {
    written = k.written;
    out = k.out;
    fit = k.fit;
    walked = by (open_defining (external_slots 0 t.externals) no_view (reverse k.written)) (ap (λ (rs : Trail). open_defining (external_slots 0 t.externals) no_view rs >>= λ x. reach t.root x.0 x.1) (sym (append-nil (reverse k.written)))
        ∙ ap (λ (bs : List Binding). open_defining bs no_view (reverse k.written ++ []) >>= λ x. reach t.root x.0 x.1) (sym (external_keys_slots 0 t.externals))
        ∙ k.walked no_view [] (nothing_later (left_state 0 st).frames k.grew));
  }
    where
      by : (o : Option (View × Trail)) → (o >>= λ x. reach t.root x.0 x.1) ≡ some (lexical_read t, []) → (o >>= λ x. reach t.root x.0 x.1 >>= λ y. check (eqb (length y.1) 0) >>= λ _. some y.0) ≡ some (lexical_read t)
      by none e = absurd (none≢some e)
      by (some x) e = rw e refl

  root_opened : (n : ℕ) (st : AnalysisStack) → After (λ (b : AnalysisStack). b ≡ with_frames (new_frame true 0 n ∷ []) st) (open_root L n st)
  unfolding open_root open_frame with_frames
  root_opened n st = after_bind {P = λ (b : AnalysisStack). b ≡ with_frames (new_frame true (length st.locals) 0 ∷ st.frames) st} _ (after_need _ 7 0 _ λ _. fine refl) λ b is. fine (ap (λ (b : AnalysisStack). with_frames (new_frame true 0 n ∷ []) b) is)

  root_walked : (t : Tree) (a b c : AnalysisStack) → length t.externals ≤ 65535 → Externals 0 t.externals empty_stack a → b ≡ with_frames (new_frame true 0 (length t.externals) ∷ []) a
      → Step (external_keys 0 t.externals) at_root (root_scope t) (λ v rs. reach t.root v rs) (read t.root (root_scope t)) b c → c.sink.errored ≡ false → RootKept t (closed_state c)
  unfolding with_frames new_frame defined_frame empty_stack lexical_read
  root_walked t a b c few outside is walked calm =
      let ks = external_keys 0 t.externals in
      let count = external_count 0 t.externals in
      let same_keys : keys b.locals ≡ ks = ap (λ (b : AnalysisStack). keys b.locals) is ∙ outside.same_keys in
      let same_frames : b.frames ≡ defined_frame 0 (length ks) ∷ [] = ap (λ (b : AnalysisStack). b.frames) is ∙ ap (λ (n : ℕ). defined_frame 0 n ∷ []) (sym count) in
      let same_out : b.sink.out ≡ [] = ap (λ (b : AnalysisStack). b.sink.out) is ∙ ap (λ (s : Sink). s.out) outside.same_sink in
      whole t c (defining_kept [] ks empty_stack b c nothing_ready same_frames same_out (walked.kept calm (root_agrees t) (root_ready ks b (omega (arith, count)) same_keys same_frames)))

  pub root_kept : (t : Tree) → length t.externals ≤ 65535 → Walks L t.root → After (λ (st : AnalysisStack). st.sink.errored ≡ false → RootKept t st) (analyze_root L t)
  unfolding analyze_root close_frame closed_state with_frames with_out with_sink
  root_kept t few walks =
      after_bind _ (externals_there 0 t.externals empty_stack) λ a outside.
      after_bind _ (root_opened (length t.externals) a) λ b is.
      after_bind _ (walks unnamed unnamed_fits (external_keys 0 t.externals) at_root (root_scope t) b) λ c walked.
      after_bind _ (emit_is L 0 SH (shape_numbers (top c.frames)) c) λ d e.
      fine (subst (λ (d : AnalysisStack). d.sink.errored ≡ false → RootKept t (with_frames (beneath d.frames) d)) (sym e) (root_walked t a b c few outside is walked))
