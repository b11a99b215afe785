use Rattle.std.proofs.Common.{rules, ◌≡◌, refl, sym, true, false, ◌++◌, ◌∷◌, [], List, map, take, drop, length, ◌-◌, subst}
use Rattle.cfdp_status.specs.Codes.{is_successful}
use Rattle.cfdp_actions.specs.Actions.{Item, Perform, Request}
use Rattle.cfdp_verdicts.specs.Costs.{Cost, costs_from}
use Rattle.cfdp_verdicts.proofs.Running.{Goes, goes_on, fails, ends, none_is, rest_is, cost_of_sketch}
use Rattle.cfdp_verdicts.proofs.costing.add_requests.Goals as goal

pub returns-then-not-is_successful : goal.returns-then-not-is_successful
returns-then-not-is_successful c = λ fp F x done answers run within.
    let request : Request = c.request-item.result in
    let failed : is_successful c.in_ok-status.status ≡ false = search rules in
    let is = rest_is c.requests.rest.now (take (length c.requests.rest.now - 1) (drop 1 c.requests.rest.now)) request c.in-len1-up.len_at_least
    c.request-item.is refl in
    fails c.appended.ensures c.view_goes_on.ensures fp F x c.args.view.now.prefixes c.requests.view c.apply.new.self (Perform request)
    (map Perform (take (length c.requests.rest.now - 1) (drop 1 c.requests.rest.now)))
    c.in_ok-status.status c.requests.costs.items (c.args.costs.now.items ++ costs_from c.args.view.now.prefixes F x done (map Perform c.args.requests.now))
    c.in_ok-status.ensures.prefixes c.in_ok-status.ensures.stated
    (subst (λ (rest : List Item). Goes fp F x c.args.view.now.prefixes c.requests.view rest c.requests.costs.items
    (c.args.costs.now.items ++ costs_from c.args.view.now.prefixes F x done (map Perform c.args.requests.now))) is
    (c.requests.invariant fp F x done answers run within))
    failed

pub requests-preserved : goal.requests-preserved
requests-preserved c = λ fp F x done answers run within.
    let request : Request = c.request-item.result in
    let good : is_successful c.in_ok-status.status ≡ true = search rules in
    let is = rest_is c.requests.rest.now (take (length c.requests.rest.now - 1) (drop 1 c.requests.rest.now)) request c.in-len1-up.len_at_least
    c.request-item.is refl in
    let whole : List Cost = c.args.costs.now.items ++ costs_from c.args.view.now.prefixes F x done (map Perform c.args.requests.now) in
    let written : c.push.new.self.items ≡ c.requests.costs.items ++ cost_of_sketch c.apply.new.self ∷ [] = search rules in
    subst (λ (costs : List Cost). Goes fp F x c.args.view.now.prefixes c.apply.new.self
    (map Perform (take (length c.requests.rest.now - 1) (drop 1 c.requests.rest.now))) costs whole) (sym written)
    (goes_on c.appended.ensures c.view_goes_on.ensures fp F x c.args.view.now.prefixes c.requests.view c.apply.new.self (Perform request)
    (map Perform (take (length c.requests.rest.now - 1) (drop 1 c.requests.rest.now)))
    c.in_ok-status.status c.requests.costs.items whole
    c.in_ok-status.ensures.prefixes c.in_ok-status.ensures.stated
    (subst (λ (rest : List Item). Goes fp F x c.args.view.now.prefixes c.requests.view rest c.requests.costs.items whole) is
    (c.requests.invariant fp F x done answers run within))
    good)

pub returns : goal.returns
returns c = λ fp F x done answers run within.
    let is : map Perform c.requests.rest.now ≡ [] = none_is c.requests.rest.now c.in_default.len_below in
    ends fp F x c.args.view.now.prefixes c.requests.view c.requests.costs.items (c.args.costs.now.items
    ++ costs_from c.args.view.now.prefixes F x done (map Perform c.args.requests.now))
    (subst (λ (rest : List Item). Goes fp F x c.args.view.now.prefixes c.requests.view rest c.requests.costs.items
    (c.args.costs.now.items ++ costs_from c.args.view.now.prefixes F x done (map Perform c.args.requests.now))) is
    (c.requests.invariant fp F x done answers run within))
