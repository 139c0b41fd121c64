-- Names that stand for numbers: those of services (services(5)), and those of types of ICMP (iptables-extensions(8)).
use Rattle.std.specs.Prelude.{ℕ, List, ◌++◌, All, codes}
use Rattle.std.specs.List.{filter_map}
use Rattle.std.specs.Str.Lines.{lines}
use Rattle.fields.specs.text.Cut.{cut_at}
use Rattle.fields.specs.text.Line.{IsOneLine}

-- the names and numbers of a text: those of its lines in which a blank (32) stands between them
abbrev pub names_of : List ℕ → List (List ℕ × List ℕ)
names_of text = filter_map (cut_at 32) (lines text)

-- no number has a newline
abbrev pub HaveOneLine : List (List ℕ × List ℕ) → Type 0
HaveOneLine rows = All (λ (row : List ℕ × List ℕ). IsOneLine row.1) rows

-- the services, each with its port
abbrev pub services : List ℕ
services =
    codes "tcpmux 1\necho 7\ndiscard 9\nsystat 11\ndaytime 13\nnetstat 15\nqotd 17\nchargen 19\nftp-data 20\nftp 21\nssh 22\n"
    ++ codes "telnet 23\nsmtp 25\nmail 25\ntime 37\nwhois 43\ntacacs 49\ndomain 53\nbootps 67\nbootpc 68\ntftp 69\ngopher 70\n"
    ++ codes "finger 79\nhttp 80\nwww 80\nkerberos 88\niso-tsap 102\npop3 110\npop-3 110\nsunrpc 111\nportmapper 111\nauth 113\n"
    ++ codes "ident 113\nnntp 119\nntp 123\nepmap 135\nloc-srv 135\nnetbios-ns 137\nnetbios-dgm 138\nnetbios-ssn 139\nimap2 143\n"
    ++ codes "imap 143\nsnmp 161\nsnmp-trap 162\nsnmptrap 162\nxdmcp 177\nbgp 179\nipx 213\nptp-event 319\nptp-general 320\n"
    ++ codes "ldap 389\nsvrloc 427\nhttps 443\nsnpp 444\nmicrosoft-ds 445\nkpasswd 464\nsubmissions 465\nssmtp 465\nsmtps 465\n"
    ++ codes "urd 465\nisakmp 500\nexec 512\nbiff 512\nlogin 513\nwho 513\nshell 514\nsyslog 514\nprinter 515\ntalk 517\nntalk 518\n"
    ++ codes "route 520\nrouter 520\nuucp 540\nklogin 543\nkshell 544\ndhcpv6-client 546\ndhcpv6-server 547\nafpovertcp 548\n"
    ++ codes "rtsp 554\nnntps 563\nsubmission 587\nasf-rmcp 623\nipp 631\nldaps 636\nldp 646\ntinc 655\nkerberos-adm 749\n"
    ++ codes "domain-s 853\nrsync 873\nftps-data 989\nftps 990\ntelnets 992\nimaps 993\npop3s 995\nsocks 1080\nopenvpn 1194\n"
    ++ codes "ms-sql-s 1433\nms-sql-m 1434\nl2f 1701\nl2tp 1701\nradius 1812\nradius-acct 1813\nradacct 1813\nnfs 2049\n"
    ++ codes "cvspserver 2401\ndict 2628\ngpsd 2947\nicpv2 3130\nicp 3130\niscsi-target 3260\nmysql 3306\nms-wbt-server 3389\n"
    ++ codes "nut 3493\ndistcc 3632\ndaap 3689\nsvn 3690\nsubversion 3690\nsieve 4190\nepmd 4369\nntske 4460\nipsec-nat-t 4500\n"
    ++ codes "iax 4569\nmunin 4949\nsip 5060\nsip-tls 5061\nxmpp-client 5222\njabber-client 5222\nxmpp-server 5269\n"
    ++ codes "jabber-server 5269\ncfengine 5308\nmdns 5353\npostgresql 5432\npostgres 5432\nnrpe 5666\nnsca 5667\namqps 5671\n"
    ++ codes "amqp 5672\nx11 6000\nredis 6379\nsyslog-tls 6514\nircd 6667\nircs-u 6697\nhttp-alt 8080\nwebcache 8080\npuppet 8140\n"
    ++ codes "bacula-dir 9101\nbacula-fd 9102\nbacula-sd 9103\ngit 9418\nwebmin 10000\nzabbix-agent 10050\nzabbix-trapper 10051\n"
    ++ codes "amanda 10080\nnbd 10809\nhkp 11371\n"

-- the types of ICMP that have a name, each as `type` or `type/code`
abbrev pub icmp_types : List ℕ
icmp_types =
    codes "source-route-failed 3/5\nnetwork-unknown 3/6\nhost-unknown 3/7\nnetwork-prohibited 3/9\nhost-prohibited 3/10\n"
    ++ codes "TOS-network-unreachable 3/11\nTOS-host-unreachable 3/12\ncommunication-prohibited 3/13\n"
    ++ codes "host-precedence-violation 3/14\nprecedence-cutoff 3/15\nnetwork-redirect 5/0\nhost-redirect 5/1\n"
    ++ codes "TOS-network-redirect 5/2\nTOS-host-redirect 5/3\nrouter-advertisement 9\nrouter-solicitation 10\n"
    ++ codes "ttl-zero-during-transit 11/0\nttl-zero-during-reassembly 11/1\nip-header-bad 12/0\nrequired-option-missing 12/1\n"
    ++ codes "address-mask-request 17\naddress-mask-reply 18\n"
