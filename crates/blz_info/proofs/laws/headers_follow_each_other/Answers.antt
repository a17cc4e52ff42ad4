use Rattle.blz_info.proofs.HeadersEnd.{headers_on, headers_end}
use Rattle.blz_info.proofs.laws.headers_follow_each_other.Goals as goal

pub returns-clause-behind : goal.returns-clause-behind
returns-clause-behind c = headers_on

pub returns-clause-end : goal.returns-clause-end
returns-clause-end c = headers_end
