-- Turns of the loops that define names: what is left of the work, from here, gives what the whole gives. `Read` and `run` are those of binds, or
-- of parameters. Assumes nothing.
use Prim.Native.Nat.{ℕ, suc, ◌+◌, ◌-◌, ◌≤◌, ◌<◌}
use mathlib.Core.List.{List, [], ◌∷◌}
use mathlib.Core.Path.{◌≡◌, refl, sym, ap, subst, ◌∙◌}
use native.Mathlib.Omega.{arith}
use borrow.Author.Rules.{rules}
use lib.ListN.{length}
use Rattle.rules.specs.Outcome.{Outcome, ok, refuse, ◌>>=◌}
use Rattle.rules.specs.Numbers.{number_at}
use Rattle.rules.specs.Records.{Span}
use Rattle.rules.specs.Frames.{ClosureFrame}
use Rattle.rules.specs.Locals.{LocalDefinition}
use Rattle.rules.specs.State as rules
use Rattle.rules.specs.Scoping as scoping
use Rattle.rules.specs.Writing as rules_writing
use Rattle.rules.proofs.After.{After, fine, after_ok, after_bind, after_need, after_choose}
use Rattle.resolver.specs.Meaning.{frames_of}
use Rattle.bytes_skip.specs.Behind.{Skipped}
use Rattle.law_runs.specs.Run.{Accepted, binds_at, params_at, run_define_binds, run_define_params}
use Rattle.state.specs.Seen.{span_of, buffers, stack, seen, limits_of, Fit, Fits}
use Rattle.state.specs.Walks.{Walks}
use Rattle.state.specs.declared.AnalysisStack.{AnalysisStack}
use Rattle.state.specs.declared.Limits.{Limits}
use Rattle.resolver.proofs.Laws.{length_frames}
use Rattle.step_declare.specs.Defined.{DefinedLocal}
use Rattle.step_write.proofs.Laws.{limits_same}
use Rattle.step_declare.specs.Answers.{BindsThere, ParamsThere, Fitting, AfterParam, BindsDefined, ParamsDefined}
use Rattle.step_declare.proofs.Reading.{first_bind, first_param, no_bind, no_param}
use Rattle.std.specs.Prelude.{Ok, Err}
use Rattle.refusal.specs.declared.Refusal.{Refusal}
use Rattle.refusal.specs.Meaning.{number_of}
use Rattle.state.specs.Seen.{Step}

-- A frame stays open

some_frame : (f : ClosureFrame) (fs : List ClosureFrame) (st : rules.AnalysisStack) → 0 < length (rules.with_frames (f ∷ fs) st).frames
unfolding rules.with_frames
some_frame f fs st = omega arith

pub pushed_open : (L : rules.Limits) (place : ℕ) (l : LocalDefinition) (st : rules.AnalysisStack) → After (λ st'. 0 < length st'.frames) (scoping.push_in_frame L place l st)
unfolding scoping.push_in_frame scoping.push_local
pushed_open L place l st = after_bind {P = λ _. Unit {0}} _ (after_need _ 6 place _ (λ _. fine tt)) (λ st _. fine (some_frame _ _ st))

defined_open : (L : rules.Limits) (place name : ℕ) (span : Span) (depth : ℕ) (st : rules.AnalysisStack) → 0 < length st.frames
    → After (λ st'. 0 < length st'.frames) (scoping.define_local L place name span depth st)
unfolding scoping.define_local rules_writing.report rules.with_sink
defined_open L place name span depth st h =
    after_choose _ _ _ (λ _. after_need _ 10 place _ (λ _. fine h)) (λ _. after_need _ 11 place _ (λ _. pushed_open L place _ st))

-- What a step answered

module _ {r : Step} {d d' locals locals' frames frames' : List ℕ} {l : Limits} {st : AnalysisStack} {place name span depth : ℕ}
    (defined : DefinedLocal r d d' locals locals' frames frames' l st place name span depth) where
  pub step_ok : {st' : AnalysisStack} → r ≡ Ok st' → (out captures references : List ℕ)
      → scoping.define_local (limits_of l out d) place name (span_of span) depth (stack (buffers out d locals frames captures references) st)
      ≡ ok (stack (buffers out d' locals' frames' captures references) st')
  step_ok e out captures references = sym (defined.same out captures references) ∙ ap (λ (x : Step). seen x (buffers out d' locals' frames' captures references)) e

  pub step_refused : {why : Refusal} → r ≡ Err why → (out captures references : List ℕ)
      → scoping.define_local (limits_of l out d) place name (span_of span) depth (stack (buffers out d locals frames captures references) st) ≡ refuse (number_of why.reason) why.place
  step_refused e out captures references = sym (defined.same out captures references) ∙ ap (λ (x : Step). seen x (buffers out d' locals' frames' captures references)) e

  step_open : {st' : AnalysisStack} → r ≡ Ok st' → 0 < st.frames → 0 < st'.frames
  unfolding stack
  step_open {st'} e h =
      let o : 0 < length (frames_of st.frames frames st.captures []) = rw (length_frames st.frames frames st.captures []) h in
      let o' : 0 < length (frames_of st'.frames frames' st'.captures []) =
      after_ok (defined_open (limits_of l [] d) place name (span_of span) depth (stack (buffers [] d locals frames [] []) st) o) (step_ok e [] [] []) in
      (rw (length_frames st'.frames frames' st'.captures []) at o')

-- Turns

module _ (s : List ℕ) (Read : (levels n p : ℕ) → Type 0) (run : rules.Limits → (levels n p depth : ℕ) → rules.AnalysisStack → Outcome (rules.AnalysisStack × ℕ)) where
  -- the work goes on at q once the name at p is defined
  pub record GoesOn (p q : ℕ) : Type 0 where
    pub others : (levels n : ℕ) → Read levels (suc n) p → Read levels n q
    pub defines : (levels n : ℕ) → Read levels (suc n) p → (L : rules.Limits) (depth : ℕ) (st : rules.AnalysisStack)
        → run L levels (suc n) p depth st
        ≡ (scoping.define_local L p (number_at s (p + 2)) (span_of (number_at s (p + 6))) depth st >>= λ st. run L levels n q depth st)

  -- where the name at p is refused, so is the work
  abbrev pub RefusesToo : ℕ → Type 0
  RefusesToo p = (levels n : ℕ) → Read levels (suc n) p → (L : rules.Limits) (depth : ℕ) (st : rules.AnalysisStack) (number place : ℕ)
      → scoping.define_local L p (number_at s (p + 2)) (span_of (number_at s (p + 6))) depth st ≡ refuse number place
      → run L levels (suc n) p depth st ≡ refuse number place

  -- i of n names are defined, and p is reached
  pub record Defining (l : Limits) (d₀ locals₀ frames₀ : List ℕ) (st₀ : AnalysisStack) (at n depth i p : ℕ) (st : AnalysisStack) (d locals frames : List ℕ) : Type 0 where
    pub turns : i ≤ n
    pub left : (levels : ℕ) → Read levels n at → Read levels (n - i) p
    pub same : (levels : ℕ) → Read levels n at → (out captures references : List ℕ)
        → run (limits_of l out d₀) levels n at depth (stack (buffers out d₀ locals₀ frames₀ captures references) st₀)
        ≡ run (limits_of l out d₀) levels (n - i) p depth (stack (buffers out d locals frames captures references) st)
    pub fit : (out captures references : List ℕ) → Fit l (buffers out d₀ locals₀ frames₀ captures references) st₀ → Fit l (buffers out d locals frames captures references) st
    pub still_open : 0 < st.frames
    pub diagnostics_same : length d ≡ length d₀
    pub locals_same : length locals ≡ length locals₀
    pub frames_same : length frames ≡ length frames₀

  pub defining_begin : (l : Limits) (d locals frames : List ℕ) (st : AnalysisStack) (at n depth : ℕ) → 0 < st.frames → Defining l d locals frames st at n depth 0 at st d locals frames
  defining_begin l d locals frames st at n depth h =
      let e : n - 0 ≡ n = omega arith in
      record {
        turns = omega arith;
        left = λ levels read. rw e read;
        same = λ levels read out captures references. rw e;
        fit = λ out captures references f. f;
        still_open = h;
        diagnostics_same = refl;
        locals_same = refl;
        frames_same = refl;
      }

  module _ {l : Limits} {d₀ locals₀ frames₀ : List ℕ} {st₀ : AnalysisStack} {at n depth i p : ℕ} {st : AnalysisStack} {d locals frames : List ℕ}
      (D : Defining l d₀ locals₀ frames₀ st₀ at n depth i p st d locals frames) where
    -- one is left to be read at p
    pub left_more : i < n → (levels : ℕ) → Read levels n at → Read levels (suc (n - (i + 1))) p
    left_more lt levels read = let e : n - i ≡ suc (n - (i + 1)) = omega arith in (rw e at (D.left levels read))

    pub still_fitting : Fitting l d₀ locals₀ frames₀ st₀ → Fitting l d locals frames st
    still_fitting f = record { out = f.out; captures = f.captures; references = f.references; fit = D.fit f.out f.captures f.references f.fit }

    module _ (lt : i < n) {q : ℕ} (on : GoesOn p q) {r : Step} {d' locals' frames' : List ℕ}
        (defined : DefinedLocal r d d' locals locals' frames frames' l st p (number_at s (p + 2)) (number_at s (p + 6)) depth) where
      one_more : (levels : ℕ) (read : Read levels n at) (out captures references : List ℕ)
          → run (limits_of l out d₀) levels n at depth (stack (buffers out d₀ locals₀ frames₀ captures references) st₀)
          ≡ (scoping.define_local (limits_of l out d) p (number_at s (p + 2)) (span_of (number_at s (p + 6))) depth (stack (buffers out d locals frames captures references) st)
          >>= λ st. run (limits_of l out d₀) levels (n - (i + 1)) q depth st)
      one_more levels read out captures references =
          let e : n - i ≡ suc (n - (i + 1)) = omega arith in
          let same : limits_of l out d₀ ≡ limits_of l out d = sym (limits_same l out out d₀ d refl D.diagnostics_same) in
          D.same levels read out captures references
          ∙ ap (λ (k : ℕ). run (limits_of l out d₀) levels k p depth (stack (buffers out d locals frames captures references) st)) e
          ∙ on.defines levels (n - (i + 1)) (left_more lt levels read) (limits_of l out d₀) depth (stack (buffers out d locals frames captures references) st)
          ∙ ap (λ (L : rules.Limits). scoping.define_local L p (number_at s (p + 2)) (span_of (number_at s (p + 6))) depth (stack (buffers out d locals frames captures references) st)
          >>= λ st. run (limits_of l out d₀) levels (n - (i + 1)) q depth st) same

      pub defining_next : {st' : AnalysisStack} → r ≡ Ok st' → length d' ≡ length d → length locals' ≡ length locals → length frames' ≡ length frames
          → Defining l d₀ locals₀ frames₀ st₀ at n depth (i + 1) q st' d' locals' frames'
      unfolding ◌>>=◌
      defining_next {st'} e d_same locals_same frames_same = record {
        turns = omega arith;
        left = λ levels read. on.others levels (n - (i + 1)) (left_more lt levels read);
        same = λ levels read out captures references.
            one_more levels read out captures references
            ∙ ap (λ (x : Outcome rules.AnalysisStack). x >>= λ st. run (limits_of l out d₀) levels (n - (i + 1)) q depth st) (step_ok defined e out captures references);
        fit = λ out captures references f.
            subst (λ (x : Step). Fits l x (buffers out d' locals' frames' captures references)) e (defined.fit out captures references (D.fit out captures references f));
        still_open = step_open defined e D.still_open;
        diagnostics_same = d_same ∙ D.diagnostics_same;
        locals_same = locals_same ∙ D.locals_same;
        frames_same = frames_same ∙ D.frames_same;
      }

    pub defining_stop : i < n → RefusesToo p → {r : Step} {d' locals' frames' : List ℕ}
        → DefinedLocal r d d' locals locals' frames frames' l st p (number_at s (p + 2)) (number_at s (p + 6)) depth
        → {why : Refusal} → r ≡ Err why → (levels : ℕ) → Read levels n at → (out captures references : List ℕ)
        → Walks (Err why) l (buffers out d₀ locals₀ frames₀ captures references) (buffers out d' locals' frames' captures references) st₀
        (λ L st. run L levels n at depth st)
    defining_stop lt too defined {why} e levels read out captures references =
        let k : n - i ≡ suc (n - (i + 1)) = omega arith in
        let same : limits_of l out d₀ ≡ limits_of l out d = sym (limits_same l out out d₀ d refl D.diagnostics_same) in
        record {
          same = λ L is. sym (ap (λ (L : rules.Limits). run L levels n at depth (stack (buffers out d₀ locals₀ frames₀ captures references) st₀)) is
              ∙ D.same levels read out captures references
              ∙ ap (λ (m : ℕ). run (limits_of l out d₀) levels m p depth (stack (buffers out d locals frames captures references) st)) k
              ∙ too levels (n - (i + 1)) (left_more lt levels read) (limits_of l out d₀) depth (stack (buffers out d locals frames captures references) st) (number_of why.reason) why.place
              (ap (λ (L : rules.Limits). scoping.define_local L p (number_at s (p + 2)) (span_of (number_at s (p + 6))) depth (stack (buffers out d locals frames captures references) st)) same
              ∙ step_refused defined e out captures references));
          fit = tt;
        }

    pub defining_end : n ≤ i → ((levels p : ℕ) (L : rules.Limits) (depth : ℕ) (st : rules.AnalysisStack) → run L levels 0 p depth st ≡ ok (st, p))
        → (levels : ℕ) → Read levels n at → (out captures references : List ℕ) → Fit l (buffers out d₀ locals₀ frames₀ captures references) st₀
        → Walks (Ok (st, p)) l (buffers out d₀ locals₀ frames₀ captures references) (buffers out d locals frames captures references) st₀
        (λ L st. run L levels n at depth st)
    defining_end le none levels read out captures references f =
        let e : n - i ≡ 0 = omega arith in
        record {
          same = λ L is. sym (ap (λ (L : rules.Limits). run L levels n at depth (stack (buffers out d₀ locals₀ frames₀ captures references) st₀)) is
              ∙ D.same levels read out captures references
              ∙ ap (λ (k : ℕ). run (limits_of l out d₀) levels k p depth (stack (buffers out d locals frames captures references) st)) e
              ∙ none levels p (limits_of l out d₀) depth (stack (buffers out d locals frames captures references) st));
          fit = D.fit out captures references f;
        }

-- Binds

abbrev pub BindsRead : List ℕ → (levels n p : ℕ) → Type 0
BindsRead s levels n p = Accepted (binds_at s levels n p)

abbrev pub binds_run : List ℕ → rules.Limits → (levels n p depth : ℕ) → rules.AnalysisStack → Outcome (rules.AnalysisStack × ℕ)
binds_run s L levels n p depth st = run_define_binds s L levels n p depth st

pub binds_on : (s : List ℕ) (p q : ℕ) → Skipped s (p + 10) q → GoesOn s (BindsRead s) (binds_run s) p q
binds_on s p q skips = record {
  others = λ levels n read.
      let b = first_bind s levels n p read in
      subst (λ (x : ℕ). Accepted (binds_at s levels n x)) (sym (b.past q skips)) b.others;
  defines = λ levels n read L depth st.
      let b = first_bind s levels n p read in
      b.defines L depth st
      ∙ ap (λ (x : ℕ). scoping.define_local L p (number_at s (p + 2)) (span_of (number_at s (p + 6))) depth st >>= λ st. run_define_binds s L levels n x depth st) (sym (b.past q skips));
}

pub binds_refuse : (s : List ℕ) (p : ℕ) → RefusesToo s (BindsRead s) (binds_run s) p
unfolding ◌>>=◌
binds_refuse s p levels n read L depth st number place e =
    let b = first_bind s levels n p read in
    b.defines L depth st
    ∙ ap (λ (x : Outcome rules.AnalysisStack). x >>= λ st. run_define_binds s L levels n b.next depth st) e

module _ {s d₀ locals₀ frames₀ d locals frames : List ℕ} {l : Limits} {st₀ st : AnalysisStack} {at n depth i p : ℕ}
    (D : Defining s (BindsRead s) (binds_run s) l d₀ locals₀ frames₀ st₀ at n depth i p st d locals frames) where
  pub bind_there : i < n → BindsThere s n at → p + 10 ≤ length s
  bind_there lt there = (first_bind s there.levels _ _ (left_more s (BindsRead s) (binds_run s) D lt there.levels there.read)).fits

  pub binds_stop : {d' locals' frames' : List ℕ} {r : Step} {why : Refusal} → i < n
      → DefinedLocal r d d' locals locals' frames frames' l st p (number_at s (p + 2)) (number_at s (p + 6)) depth → r ≡ Err why
      → BindsDefined (Err why) s d₀ d' locals₀ locals' frames₀ frames' l st₀ at n depth
  binds_stop lt defined e = record { defined = λ levels read out captures references f. defining_stop s (BindsRead s) (binds_run s) D lt (binds_refuse s p) defined e levels read out captures references }

  pub binds_end : n ≤ i → BindsDefined (Ok (st, p)) s d₀ d locals₀ locals frames₀ frames l st₀ at n depth
  binds_end le = record { defined = defining_end s (BindsRead s) (binds_run s) D le (no_bind s) }

-- Parameters

abbrev pub ParamsRead : List ℕ → (levels n p : ℕ) → Type 0
ParamsRead s levels n p = Accepted (params_at s levels n p)

abbrev pub params_run : List ℕ → rules.Limits → (levels n p depth : ℕ) → rules.AnalysisStack → Outcome (rules.AnalysisStack × ℕ)
params_run s L levels n p depth st = run_define_params s L levels n p depth st

pub params_on : (s : List ℕ) (p q : ℕ) → AfterParam s p q → GoesOn s (ParamsRead s) (params_run s) p q
params_on s p q behind = record {
  others = λ levels n read.
      let b = first_param s levels n p read in
      subst (λ (x : ℕ). Accepted (params_at s levels n x)) (sym (b.past q behind)) b.others;
  defines = λ levels n read L depth st.
      let b = first_param s levels n p read in
      b.defines L depth st
      ∙ ap (λ (x : ℕ). scoping.define_local L p (number_at s (p + 2)) (span_of (number_at s (p + 6))) depth st >>= λ st. run_define_params s L levels n x depth st) (sym (b.past q behind));
}

pub params_refuse : (s : List ℕ) (p : ℕ) → RefusesToo s (ParamsRead s) (params_run s) p
unfolding ◌>>=◌
params_refuse s p levels n read L depth st number place e =
    let b = first_param s levels n p read in
    b.defines L depth st
    ∙ ap (λ (x : Outcome rules.AnalysisStack). x >>= λ st. run_define_params s L levels n b.next depth st) e

module _ {s d₀ locals₀ frames₀ d locals frames : List ℕ} {l : Limits} {st₀ st : AnalysisStack} {at n depth i p : ℕ}
    (D : Defining s (ParamsRead s) (params_run s) l d₀ locals₀ frames₀ st₀ at n depth i p st d locals frames) where
  pub param_there : i < n → ParamsThere s n at → p + 14 ≤ length s
  param_there lt there = (first_param s there.levels _ _ (left_more s (ParamsRead s) (params_run s) D lt there.levels there.read)).fits

  pub param_named : i < n → ParamsThere s n at → p + 10 ≤ length s
  param_named lt there = omega (arith, param_there lt there)

  pub params_stop : {d' locals' frames' : List ℕ} {r : Step} {why : Refusal} → i < n
      → DefinedLocal r d d' locals locals' frames frames' l st p (number_at s (p + 2)) (number_at s (p + 6)) depth → r ≡ Err why
      → ParamsDefined (Err why) s d₀ d' locals₀ locals' frames₀ frames' l st₀ at n depth
  params_stop lt defined e = record { defined = λ levels read out captures references f. defining_stop s (ParamsRead s) (params_run s) D lt (params_refuse s p) defined e levels read out captures references }

  pub params_end : n ≤ i → ParamsDefined (Ok (st, p)) s d₀ d locals₀ locals frames₀ frames l st₀ at n depth
  params_end le = record { defined = defining_end s (ParamsRead s) (params_run s) D le (no_param s) }

-- what answers the needs of the two functions that define names, but for those that lie too far from their facts
pub ruleset binds_needs = (rules, defining_begin, still_fitting, bind_there, binds_stop, binds_end)

pub ruleset params_needs = (rules, defining_begin, still_fitting, param_named, params_stop, params_end)
