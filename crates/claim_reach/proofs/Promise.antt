-- What a step of the analysis promises: the records that it wrote can be walked back, in every later view, and reach what was meant. Assumes nothing.
use Prim.Native.Nat.{ℕ, zero, suc, ◌<◌}
use mathlib.Core.Bool.{Bool, false}
use mathlib.Core.List.{List, [], ◌∷◌, ◌++◌, map, reverse, reverse-append, append_assoc, append-nil}
use mathlib.Core.Option.{Option, none, some}
use mathlib.Core.Path.{◌≡◌, refl, sym, ap, ◌∙◌, subst}
use lib.ListN.{length, get_or, length-map}
use borrow.Author.Tests.{eq-eqb}
use Rattle.rules.specs.Outcome.{choose}
use Rattle.rules.specs.Numbers.{Name, Record, Mark, code, record_bytes, records_bytes, same_name}
use Rattle.rules.specs.Tree.{Binding, external}
use Rattle.rules.specs.Locals.{LocalDefinition}
use Rattle.rules.specs.Frames.{Capture, ClosureFrame}
use Rattle.rules.specs.State.{Limits, AnalysisStack, with_out, with_sink}
use Rattle.rules.specs.Writing.{emit}
use Rattle.rules.specs.Walk.{Place}
use Rattle.rules.proofs.After.{After, fine, after_need}
use Rattle.claim_scope.specs.Scope.{Scope, Meant, meaning}
use Rattle.claim_reach.specs.Decode.{◌>>=◌}
use Rattle.claim_reach.specs.Reach.{View, Trail, Reached, expect}
use Rattle.claim_reach.proofs.Resolving.{Grown, all_grown, grown, grown_refl, Stacked, Later, Good, view_of, grown_later}
use Rattle.claim_reach.proofs.Decoding.{OutFits, AllFit, fit_append, records_append, record_one}

-- what of a local never changes: what it stands for, and its name
abbrev pub Key : Type 0
Key = Binding × Option Name

abbrev pub key : LocalDefinition → Key
key l = (l.stands_for, l.name)

abbrev pub keys : List LocalDefinition → List Key
keys ls = map key ls

abbrev pub labels : List Key → List Binding
labels ks = map (λ (k : Key). k.0) ks

pub keys_append : (xs ys : List LocalDefinition) → keys (xs ++ ys) ≡ keys xs ++ keys ys
keys_append [] ys = refl
keys_append (x ∷ xs) ys = ap (λ (ks : List Key). key x ∷ ks) (keys_append xs ys)

pub label_count : (ks : List Key) → length (labels ks) ≡ length ks
label_count ks = length-map ks (λ (k : Key). k.0)

unfoldable pub named : Name → Option Name → Bool
named n none = false
named n (some m) = same_name n m

-- the newest of the first n that has the name
unfoldable pub newest_key : Name → List Key → ℕ → Option ℕ
newest_key name ks zero = none
newest_key name ks (suc n) = choose (named name (get_or ks n (external 0, none)).1) (λ _. some n) (λ _. newest_key name ks n)

unfoldable pub labelled : List Key → Option ℕ → Option Binding
labelled ks none = none
labelled ks (some id) = some (get_or (labels ks) id (external 0))

unfoldable pub Inside : ℕ → Option ℕ → Type 0
Inside n none = Unit {0}
Inside n (some id) = id < n

-- the locals mean what the scope says
pub record Agree (ks : List Key) (h : Place) (sc : Scope) : Type 0 where
  pub names : (name : Name) → labelled ks (newest_key name ks (length ks)) ≡ meaning name sc.names
  pub this : labelled ks h.this_local ≡ sc.inner
  pub dollar : labelled ks h.dollar_alias ≡ sc.outer
  pub this_inside : Inside (length ks) h.this_local
  pub dollar_inside : Inside (length ks) h.dollar_alias

-- a state in which an expression can be analysed
pub record Ready (ks : List Key) (st : AnalysisStack) : Type 0 where
  pub same_keys : keys st.locals ≡ ks
  pub good : Good (labels ks) st.frames
  pub stacked : Stacked (length ks) st.frames

-- a walk back over what was written
abbrev pub Back : Type 0
Back = View → Trail → Reached

-- what a step leaves: a state as ready, and records over which `walk` goes back in every later view, to reach `ms`
pub record Kept (ks : List Key) (walk : Back) (ms : List Meant) (a b : AnalysisStack) : Type 0 where
  pub ready : Ready ks b
  pub grew : Grown a.frames b.frames
  pub written : List Record
  pub out : b.sink.out ≡ a.sink.out ++ records_bytes written
  pub fit : AllFit written
  pub walked : (v : View) (rest : Trail) → Later (view_of (labels ks) b.frames) v → walk v (reverse written ++ rest) ≡ some (ms, rest)

-- an error stays, and where there is none at the end, the step kept all
pub record Step (ks : List Key) (h : Place) (sc : Scope) (walk : Back) (ms : List Meant) (a b : AnalysisStack) : Type 0 where
  pub calm : b.sink.errored ≡ false → a.sink.errored ≡ false
  pub kept : b.sink.errored ≡ false → Agree ks h sc → Ready ks a → Kept ks walk ms a b

-- Growing

same_grown : (f : ClosureFrame) (fs gs : List ClosureFrame) (cs : List Capture) (more : List Capture) → cs ≡ f.captures ++ more → Grown fs gs
    → Grown (f ∷ fs) (record { is_defining = f.is_defining; first_local = f.first_local; n_locals = f.n_locals; captures = cs } ∷ gs)
same_grown f fs gs cs more e g =
    subst (λ (cs : List Capture). Grown (f ∷ fs) (record { is_defining = f.is_defining; first_local = f.first_local; n_locals = f.n_locals; captures = cs } ∷ gs)) (sym e) (grown more g)

pub grown_then : {fs gs hs : List ClosureFrame} → Grown fs gs → Grown gs hs → Grown fs hs
grown_then all_grown all_grown = all_grown
grown_then (grown {f = f} {fs = fs} more g) (grown {gs = hs} others k) = same_grown f fs hs _ (more ++ others) (append_assoc f.captures more others) (grown_then g k)

pub later_then : (u v w : View) → Later u v → Later v w → Later u w
later_then u v w h k = record {
  same_slots = k.same_slots ∙ h.same_slots;
  more = h.more ++ k.more;
  taken_then = k.taken_then ∙ ap (λ (bs : List Binding). bs ++ k.more) h.taken_then ∙ append_assoc u.taken h.more k.more;
}

-- Putting steps together

pub back : (rs qs : List Record) (rest : Trail) → reverse (rs ++ qs) ++ rest ≡ reverse qs ++ (reverse rs ++ rest)
back rs qs rest = ap (λ (l : List Record). l ++ rest) (reverse-append rs qs) ∙ append_assoc (reverse qs) (reverse rs) rest

-- the second is walked first
abbrev pub both_back : Back → Back → Back
both_back first second v rs = second v rs >>= λ x. first v x.1 >>= λ y. some (y.0 ++ x.0, y.1)

pub kept_then : {ks : List Key} {first second : Back} {ms ns : List Meant} {a b c : AnalysisStack} → Kept ks first ms a b → Kept ks second ns b c
    → Kept ks (both_back first second) (ms ++ ns) a c
unfolding ◌>>=◌
kept_then {ks = ks} {first = first} {second = second} {ms = ms} {ns = ns} {a = a} {b = b} {c = c} h k = record {
  ready = k.ready;
  grew = grown_then h.grew k.grew;
  written = h.written ++ k.written;
  out = k.out ∙ ap (λ (s : List ℕ). s ++ records_bytes k.written) h.out ∙ append_assoc a.sink.out (records_bytes h.written) (records_bytes k.written)
      ∙ ap (λ (s : List ℕ). a.sink.out ++ s) (sym (records_append h.written k.written));
  fit = fit_append h.written k.written h.fit k.fit;
  walked = λ v rest l.
      rw (back h.written k.written rest, k.walked v (reverse h.written ++ rest) l, h.walked v rest (later_then _ _ v (grown_later (labels ks) k.grew) l)) refl;
}

pub step_then : {ks : List Key} {h : Place} {sc : Scope} {first second : Back} {ms ns : List Meant} {a b c : AnalysisStack}
    → Step ks h sc first ms a b → Step ks h sc second ns b c → Step ks h sc (both_back first second) (ms ++ ns) a c
step_then x y = record {
  calm = λ e. x.calm (y.calm e);
  kept = λ e agree ready. (let k = x.kept (y.calm e) agree ready in kept_then k (y.kept e agree k.ready));
}

kept_none : (ks : List Key) (st : AnalysisStack) → Ready ks st → Kept ks (λ v rs. some ([], rs)) [] st st
unfolding records_bytes AllFit
kept_none ks st r = record {
  ready = r;
  grew = grown_refl st.frames;
  written = [];
  out = sym (append-nil st.sink.out);
  fit = tt;
  walked = λ v rest l. refl;
}

pub step_none : (ks : List Key) (h : Place) (sc : Scope) (st : AnalysisStack) → Step ks h sc (λ v rs. some ([], rs)) [] st st
step_none ks h sc st = record { calm = λ e. e; kept = λ e agree r. kept_none ks st r }

-- a walk that reaches the same, as far as this one gets
abbrev pub Follows : Back → Back → Type 0
Follows walk other = (v : View) (rs : Trail) (y : List Meant × Trail) → walk v rs ≡ some y → other v rs ≡ some y

pub kept_walk : {ks : List Key} {walk : Back} {ms : List Meant} {a b : AnalysisStack} (other : Back) → Follows walk other → Kept ks walk ms a b → Kept ks other ms a b
kept_walk {ms = ms} other follows k = record {
  ready = k.ready;
  grew = k.grew;
  written = k.written;
  out = k.out;
  fit = k.fit;
  walked = λ v rest l. follows v _ (ms, rest) (k.walked v rest l);
}

pub step_follows : {ks : List Key} {h : Place} {sc : Scope} {walk : Back} {ms : List Meant} {a b : AnalysisStack} (other : Back) → Follows walk other → Step ks h sc walk ms a b → Step ks h sc other ms a b
step_follows other follows x = record { calm = x.calm; kept = λ d agree ready. kept_walk other follows (x.kept d agree ready) }

-- a walk that is the same one way and the other
pub step_by : {ks : List Key} {h : Place} {sc : Scope} {walk : Back} {ms ns : List Meant} {a b : AnalysisStack} (other : Back) → ((v : View) (rs : Trail) → other v rs ≡ walk v rs) → ms ≡ ns
    → Step ks h sc walk ms a b → Step ks h sc other ns a b
step_by {ks = ks} {h = h} {sc = sc} {a = a} {b = b} other same e x = subst (λ (ms : List Meant). Step ks h sc other ms a b) e (step_follows other (λ v rs y d. same v rs ∙ d) x)

-- Writing a record

pub expect_first : (m : Mark) (ns : List ℕ) (rs : Trail) → expect m ((m, ns) ∷ rs) ≡ some (ns, rs)
unfolding expect choose
expect_first m ns rs = rw (eq-eqb (code m) (code m) refl) refl

module _ (L : Limits) where
  -- after a step, a record of its own: the walk expects it, does what it does with its numbers, and goes on
  pub step_emit : {ks : List Key} {h : Place} {sc : Scope} {walk : Back} {ms : List Meant} {a : AnalysisStack} (p : ℕ) (m : Mark) (ns : List ℕ) (b : AnalysisStack)
      (with_numbers : List ℕ → Option (Unit {0})) → OutFits (m, ns) → with_numbers ns ≡ some tt
      → Step ks h sc walk ms a b → After (Step ks h sc (λ v rs. expect m rs >>= λ x. with_numbers x.0 >>= λ _. walk v x.1) ms a) (emit L p m ns b)
  unfolding emit with_out with_sink ◌>>=◌ AllFit
  step_emit {ks = ks} {walk = walk} {a = a} p m ns b with_numbers fits passes x = after_need _ 9 p _ λ _. fine (record {
    calm = x.calm;
    kept = λ e agree ready. (let k = x.kept e agree ready in record {
      ready = record { same_keys = k.ready.same_keys; good = k.ready.good; stacked = k.ready.stacked };
      grew = k.grew;
      written = k.written ++ ((m, ns) ∷ []);
      out = ap (λ (s : List ℕ). s ++ record_bytes m ns) k.out ∙ append_assoc a.sink.out (records_bytes k.written) (record_bytes m ns)
          ∙ ap (λ (s : List ℕ). a.sink.out ++ (records_bytes k.written ++ s)) (sym (record_one (m, ns)))
          ∙ ap (λ (s : List ℕ). a.sink.out ++ s) (sym (records_append k.written ((m, ns) ∷ [])));
      fit = fit_append k.written ((m, ns) ∷ []) k.fit (fit_one fits);
      walked = λ v rest l. rw (back k.written ((m, ns) ∷ []) rest, expect_first m ns (reverse k.written ++ rest), passes) (k.walked v rest l);
    });
  })
    where
      fit_one : OutFits (m, ns) → AllFit ((m, ns) ∷ [])
      fit_one f = (f, tt)
